use Rattle.std.proofs.Common.{◌≡◌, ◌<◌, ◌^◌, drop}
use Rattle.plant_script.specs.Numbers.{hex_from}
use Rattle.plant_script.proofs.numbers.hex_of.Given as goal

abbrev pub invariant-loop-digit : goal.invariant-loop-digit
invariant-loop-digit l = record {
  same : hex_from l.value (drop l.digit-index l.word) ≡ hex_from 0 l.word;
  within : l.value < 16 ^ l.digit-index;
}
