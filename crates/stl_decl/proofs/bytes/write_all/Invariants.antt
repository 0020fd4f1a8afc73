use Rattle.std.proofs.Common.{◌≡◌, drop}
use Rattle.stl_decl.specs.Bytes.{written}
use Rattle.stl_decl.proofs.bytes.write_all.Given as goal

abbrev pub invariant-loop-value : goal.invariant-loop-value
invariant-loop-value l = written (drop l.value-index l.values) l.bytes ≡ written l.values l.initial.bytes
