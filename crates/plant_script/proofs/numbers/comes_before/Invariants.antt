use Rattle.std.proofs.Common.{◌≡◌, drop}
use Rattle.plant_script.specs.Numbers.{comes_before}
use Rattle.plant_script.proofs.numbers.comes_before.Given as goal

abbrev pub invariant-loop-i : goal.invariant-loop-i
invariant-loop-i l = comes_before (drop l.i l.digits) (drop l.i l.others) ≡ comes_before l.digits l.others
