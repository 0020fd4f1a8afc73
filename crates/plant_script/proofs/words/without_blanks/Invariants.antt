use Rattle.std.proofs.Common.{◌≡◌, drop}
use Rattle.plant_script.specs.Words.{without_blanks}
use Rattle.plant_script.proofs.words.without_blanks.Given as goal

abbrev pub invariant-loop-i : goal.invariant-loop-i
invariant-loop-i l = without_blanks (drop l.i l.text) ≡ without_blanks l.text
