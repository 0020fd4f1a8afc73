use Rattle.std.proofs.Common.{◌≡◌, take, drop}
use Rattle.plant_script.specs.Fields.{split_at}
use Rattle.plant_script.proofs.Pieces.{with_front}
use Rattle.plant_script.proofs.fields.split_at_byte.Given as goal

abbrev pub invariant-loop-i : goal.invariant-loop-i
invariant-loop-i l = with_front (take l.i l.text) (split_at l.end (drop l.i l.text)) ≡ split_at l.end l.text
