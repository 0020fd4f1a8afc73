use Rattle.std.proofs.Common.{arith}
use Rattle.stl_decl.proofs.Writes.{put_more}
use Rattle.stl_decl.proofs.bytes.put_bytes.Goals as goal

pub loop-done-preserved : goal.loop-done-preserved
loop-done-preserved c = rw c.set_byte.ensures (put_more c.args.at c.args.count c.loop-done.done c.loop-done.rest c.loop-done.bytes _ (omega arith) c.loop-done.invariant)
