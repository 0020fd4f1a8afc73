use Rattle.std.proofs.Common.{◌≡◌, ◌≤◌, drop, min}
use Rattle.stl_lex.specs.Numerals.{value_from, value_of}
use Rattle.stl_lex.specs.declared.numerals.TheConstants.{CEILING}
use Rattle.stl_lex.proofs.numerals.value_of.Given as goal

abbrev pub invariant-loop-byte : goal.invariant-loop-byte
invariant-loop-byte l = record {
  same : min (value_from l.base l.value (drop l.byte-index l.digits)) CEILING ≡ min (value_of l.base l.digits) CEILING;
  within : l.value ≤ CEILING;
}
