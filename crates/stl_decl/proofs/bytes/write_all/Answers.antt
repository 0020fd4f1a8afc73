use Rattle.std.proofs.Common.{arith}
use Rattle.stl_decl.proofs.Writes.{written_more, written_done}
use Rattle.stl_decl.proofs.bytes.write_all.Goals as goal

pub loop-value-preserved : goal.loop-value-preserved
loop-value-preserved c = rw c.fill_elements.ensures (written_more c.args.values.now c.loop-value.value-index c.loop-value.bytes _ c.loop-value.invariant (omega arith) (record { first_bit = 0; bits = 0; count = 0; value = 0 }))

pub returns : goal.returns
returns c = written_done c.args.values.now c.loop-value.value-index c.loop-value.bytes _ c.loop-value.invariant (omega arith)
