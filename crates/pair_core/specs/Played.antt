-- What a play is, over its record, its showings, its end and its subsystems.
use Rattle.std.specs.Prelude.{◌≡◌, ℕ, Bool, true, false, List, map, take, Option, Some}
use Rattle.s7_events.specs.declared.entry.Side.{Side}
use Rattle.s7_events.specs.declared.entry.Request.{Request}
use Rattle.s7_events.specs.declared.entry.Answer.{Answer}
use Rattle.s7_events.specs.declared.entry.Entry.{Entry}
use Rattle.s7_base.specs.Blocks.{Program}
use Rattle.mc_machine.specs.Meaning.{asked}
use Rattle.mc_machine.specs.Stands.{Stands}
use Rattle.pair_core.specs.declared.endings.Ended.{Ended}
use Rattle.plant_script.specs.Plan.{Plan}
use Rattle.pair_core.specs.Setup.{made_for}
use Rattle.pair_core.specs.Ledger.{standing}
use Rattle.pair_core.specs.Sides.{runs}
use Rattle.pair_core.specs.Lawful.{Lawful}
use Rattle.pair_core.specs.Endings.{is_found_cut, IsEnded, IsShown}
use Rattle.pair_core.specs.Lives.{AreLives, place_of}
use Rattle.subsystem.specs.Part.{Part, IsOpen}

abbrev pub requests_of : List Entry → List (Option Request)
requests_of entries = map (λ entry. Some entry.request) entries

abbrev pub answers_of : List Entry → List Answer
answers_of entries = map (λ entry. entry.answer) entries

-- The record's requests are those that one standard CPU makes given the record's answers, the answers are lawful for the
-- script, and the showings and the end are those of the record.
pub record IsRun (program : Program) (plan : Plan) (solo : Bool) (entries : List Entry) (showings : List (ℕ × Side)) (ending : Ended) : Type 0 where
  pub requests : requests_of entries ≡ asked program (answers_of entries)
  pub lawful : Lawful program plan solo entries
  pub shown : IsShown (made_for program plan solo) entries ending showings
  pub ended : IsEnded (made_for program plan solo) entries showings ending

-- A subsystem after a run. Its lives are those of its side. While the side runs its life is open, unless a visit finds the side cut;
-- and where the life of a side that runs is open, its machine stands for the CPU after as many answers as the side took.
pub record IsSideOf (program : Program) (plan : Plan) (solo : Bool) (entries : List Entry) (showings : List (ℕ × Side)) (ended : Ended) (side : Side) (part : Part) : Type 0 where
  pub lives : AreLives solo entries ended side part.lives
  pub lasts : runs (standing (made_for program plan solo) entries) side ≡ true → is_found_cut (made_for program plan solo) entries showings side ≡ false → IsOpen part
  pub machine : runs (standing (made_for program plan solo) entries) side ≡ true → IsOpen part → Stands program (take (place_of part.lives) (answers_of entries)) part.machine
