use Rattle.std.proofs.Common.{◌≡◌, ◌≤◌, drop, min}
use Rattle.stl_lex.specs.Durations.{time_from, milliseconds}
use Rattle.stl_lex.specs.declared.numerals.TheConstants.{CEILING}
use Rattle.stl_lex.proofs.durations.milliseconds.Given as goal

abbrev pub invariant-loop-unit : goal.invariant-loop-unit
invariant-loop-unit l = record {
  same : min (time_from l.time (drop l.unit-index l.units) l.rest) CEILING ≡ min (milliseconds l.units l.fn.bytes) CEILING;
  within : l.time ≤ CEILING;
}
