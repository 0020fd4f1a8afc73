-- When a subsystem stands where a part says.
use Rattle.std.proofs.Common.{◌∙◌, List, take}
use Rattle.s7_events.specs.declared.entry.Entry.{Entry}
use Rattle.s7_base.specs.Blocks.{Program}
use Rattle.subsystem.specs.Part.{Part}
use Rattle.pair_core.specs.OwnParts.{OwnPart, own_place}
use Rattle.pair_core.specs.Played.{answers_of}
use Rattle.pair_core.specs.Places.{LoadedStands, NewStands, AskedStands}

-- a subsystem that was loaded stands at the beginning
pub loaded_stands : (program : Program) (s : Part) → LoadedStands program s
loaded_stands program s lives stands going = record {
  lives = lives;
  idle = λ off. absurd cc;
  machine = λ on. record { stands = stands; going = λ free. going };
}

-- a new subsystem stands for a side that does not run at first
pub new_stands : (program : Program) (s : Part) → NewStands program s
new_stands program s new = record { lives = new.lives; idle = λ off. new.machine; machine = λ on. absurd cc }

-- a subsystem that was asked stands where it stood
pub asked_stands : (own : OwnPart) (es : List Entry) (program : Program) (old new : Part) → AskedStands own es program old new
asked_stands own es program old new at_old alive lives going keeps = record {
  lives = lives ∙ at_old.lives;
  idle = λ off. absurd cc;
  machine = λ on. record { stands = keeps (answers_of (take (own_place own) es)) (at_old.machine on).stands; going = λ free. going };
}
