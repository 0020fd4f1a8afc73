use Rattle.std.proofs.Common.{◌≡◌, ◌+◌, ◌≤◌, length}
use Rattle.std.specs.Prelude.{IsTrue}
use Rattle.std.specs.Str.{all_ascii_digits}
use Rattle.plant_script.specs.Words.{lines_of}
use Rattle.plant_script.specs.Numbers.{value_of}
use Rattle.plant_script.specs.FirstPass.{nothing_read, first_pass}
use Rattle.plant_script.specs.Gives.{reading_of}
use Rattle.plant_script.specs.Sound.{IsSound}
use Rattle.plant_script.proofs.first_pass.first_pass.Given as goal

abbrev pub invariant-lines : goal.invariant-lines
invariant-lines l = record {
  same : first_pass (reading_of l.reading (value_of l.floor)) l.number (lines_of l.rest) ≡ first_pass nothing_read 1 (lines_of l.text);
  digits : IsTrue (all_ascii_digits l.floor);
  count : l.number + length l.rest ≤ length l.text + 1;
  sound : IsSound (reading_of l.reading (value_of l.floor)) l.number;
}

abbrev pub decreases-lines : goal.decreases-lines
decreases-lines l = length l.rest
