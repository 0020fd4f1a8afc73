use Rattle.std.proofs.Common.{◌≡◌, ◌-◌}
use Rattle.stl_decl.specs.Bytes.{put_bytes}
use Rattle.stl_decl.proofs.bytes.put_bytes.Given as goal

abbrev pub invariant-loop-done : goal.invariant-loop-done
invariant-loop-done l = put_bytes l.at (l.count - l.done) l.rest l.bytes ≡ put_bytes l.at l.count l.value l.initial.bytes
