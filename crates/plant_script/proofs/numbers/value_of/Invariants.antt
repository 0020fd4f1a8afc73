use Rattle.std.proofs.Common.{◌≡◌, ◌≤◌, drop, min}
use Rattle.plant_script.specs.Numbers.{value_from}
use Rattle.plant_script.specs.declared.numbers.TheConstants.{CEILING}
use Rattle.plant_script.proofs.numbers.value_of.Given as goal

abbrev pub invariant-loop-digit : goal.invariant-loop-digit
invariant-loop-digit l = record {
  same : min (value_from l.value (drop l.digit-index l.digits)) CEILING ≡ min (value_from 0 l.digits) CEILING;
  within : l.value ≤ CEILING;
}
