-- Where a subsystem stands.
use Rattle.std.specs.Prelude.{◌≡◌, true, false, List, [], ◌∷◌, take, Option, None}
use Rattle.s7_events.specs.declared.entry.Entry.{Entry}
use Rattle.s7_events.specs.declared.entry.Answer.{Answer}
use Rattle.s7_base.specs.Blocks.{Program}
use Rattle.mc_machine.specs.Stands.{Running, IsIdle, CanAsk, Stands}
use Rattle.subsystem.specs.Part.{Part, IsNew, first_life}
use Rattle.pair_core.specs.OwnParts.{OwnPart, own_place, first_part}
use Rattle.pair_core.specs.Stops.{stop_of}
use Rattle.pair_core.specs.Played.{answers_of}

-- the machine is the standard CPU's after these entries, and it goes on, unless the last of them stops it
pub record StandsAfter (program : Program) (es : List Entry) (machine : Option Running) : Type 0 where
  pub stands : Stands program (answers_of es) machine
  pub going : stop_of es ≡ None → CanAsk machine

-- The subsystem is where this part says, in a record that begins with these entries: its lives are those of the part; while
-- its life is open, its machine is the standard CPU's after as many entries as its place, and else it is idle.
pub record IsAt (program : Program) (own : OwnPart) (es : List Entry) (s : Part) : Type 0 where
  pub lives : s.lives ≡ own.lives
  pub idle : own.alive ≡ false → IsIdle s.machine
  pub machine : own.alive ≡ true → StandsAfter program (take (own_place own) es) s.machine

-- a subsystem that was loaded for these blocks stands at the beginning of a record
abbrev pub LoadedStands : Program → Part → Type 0
LoadedStands program s =
    s.lives ≡ first_life ∷ [] → Stands program [] s.machine → CanAsk s.machine → IsAt program (first_part true) [] s

-- a new subsystem stands for a side that does not run at first
abbrev pub NewStands : Program → Part → Type 0
NewStands program s = IsNew s → IsAt program (first_part false) [] s

-- a subsystem that can be asked, and was asked, stands where it stood
abbrev pub AskedStands : OwnPart → List Entry → Program → Part → Part → Type 0
AskedStands own es program old new =
    IsAt program own es old → own.alive ≡ true → new.lives ≡ old.lives → CanAsk new.machine
    → ((given : List Answer) → Stands program given old.machine → Stands program given new.machine) → IsAt program own es new
