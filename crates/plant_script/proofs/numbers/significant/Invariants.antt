use Rattle.std.proofs.Common.{◌≡◌, drop}
use Rattle.plant_script.specs.Numbers.{significant}
use Rattle.plant_script.proofs.numbers.significant.Given as goal

abbrev pub invariant-loop-i : goal.invariant-loop-i
invariant-loop-i l = significant (drop l.i l.digits) ≡ significant l.digits
