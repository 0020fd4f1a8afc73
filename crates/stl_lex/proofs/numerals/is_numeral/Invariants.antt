use Rattle.std.proofs.Common.{◌≡◌, drop}
use Rattle.stl_lex.specs.Numerals.{goes_on, is_numeral}
use Rattle.stl_lex.proofs.numerals.is_numeral.Given as goal

abbrev pub invariant-loop-byte : goal.invariant-loop-byte
invariant-loop-byte l = goes_on l.behind_digit l.base (drop l.byte-index l.digits) ≡ is_numeral l.base l.digits
