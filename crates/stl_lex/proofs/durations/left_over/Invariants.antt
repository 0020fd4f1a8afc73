use Rattle.std.proofs.Common.{◌≡◌, drop}
use Rattle.stl_lex.specs.Durations.{left_over}
use Rattle.stl_lex.proofs.durations.left_over.Given as goal

abbrev pub invariant-loop-unit : goal.invariant-loop-unit
invariant-loop-unit l = left_over (drop l.unit-index l.units) l.rest ≡ left_over l.units l.fn.bytes
