use Rattle.std.proofs.Common.{◌≡◌, drop}
use Rattle.std.specs.Prelude.{is_some}
use Rattle.pair_top.specs.Pattern.{sides_from}
use Rattle.pair_top.proofs.pattern.are_letters.Given as goal

abbrev pub invariant-loop-letter : goal.invariant-loop-letter
invariant-loop-letter l = is_some (sides_from (drop l.letter-index l.word)) ≡ is_some (sides_from l.word)
