-- What the fields of a pair stand for.
use Rattle.std.specs.Prelude.{◌≡◌, ℕ, ◌+◌, ◌≤◌, ◌*◌, ◌<◌, true, List, length, None}
use Rattle.s7_events.specs.declared.entry.Side.{Side}
use Rattle.s7_events.specs.declared.entry.Entry.{Entry}
use Rattle.plant_script.specs.Plan.{IsPlan}
use Rattle.plant_io.specs.Inputs.{InputsKept, AreStates}
use Rattle.pair_core.specs.declared.turns.Act.{Act}
use Rattle.pair_core.specs.declared.turns.Act.TheVariants.{Over, Dead, Take, Show, Mark, Unmarked, Behind, Append}
use Rattle.pair_core.specs.declared.state.Derived.{Derived}
use Rattle.pair_core.specs.declared.state.State.{State}
use Rattle.pair_core.specs.Sides.{of_side}
use Rattle.pair_core.specs.OwnParts.{own_place, had_life}
use Rattle.pair_core.specs.CutsKept.{IsCutsAt}
use Rattle.pair_core.specs.Setup.{Setup, made_for}
use Rattle.pair_core.specs.Ledger.{ledger}
use Rattle.pair_core.specs.Waits.{schedule}
use Rattle.pair_core.specs.Jobs.{jobs_of, JobsKept}
use Rattle.alarm_queue.specs.Waiting as alarms
use Rattle.pair_core.specs.World.{Log, World, Game, part, standing_in, shown_past, is_open}

abbrev pub setup_of : State → Setup
setup_of s = made_for s.setup.program s.setup.script s.setup.solo

abbrev pub log_of : State → Log
log_of s = record { entries = s.log.record.entries; shown = s.log.shown.list; marked = s.log.marked }

abbrev pub world_of : State → World
world_of s = record { log = log_of s; parts = s.parts; back = None }

abbrev pub game_of : State → Game
game_of s = record { setup = setup_of s; world = world_of s }

-- the states of the modules are those of the record, after the moment that follows it
pub record AreInputs (p : Setup) (es : List Entry) (kept : InputsKept) : Type 0 where
  pub states : AreStates p.plan.modules (ledger p es).inputs kept.states
  pub moment : kept.moment ≡ length es + 1

-- the alarms that wait are those of the record, and OB72 may be added once for each entry that may still come
pub record AreWaits (p : Setup) (es : List Entry) (kept : alarms.State) : Type 0 where
  pub schedule : kept.schedule ≡ schedule p
  pub waiting : kept.waiting ≡ (ledger p es).waiting
  pub moment : kept.moment ≡ length es + 1
  pub left : p.plan.end ≤ kept.redundancy_left + length es

-- the jobs are those of the script, and as many were answered as the record says
pub record AreJobs (p : Setup) (es : List Entry) (kept : JobsKept) : Type 0 where
  pub list : kept.list ≡ jobs_of p.plan
  pub answered : kept.answered ≡ (ledger p es).jobs

-- what is derived is what the record, the showings and the script say
pub record IsDerived (p : Setup) (l : Log) (derived : Derived) : Type 0 where
  pub standing : derived.standing ≡ standing_in p l
  pub watch : derived.watch ≡ (ledger p l.entries).watch
  pub moment : (ledger p l.entries).moment ≡ length l.entries
  pub past : (side : Side) → of_side derived.past side ≡ shown_past l.shown side
  pub inputs : AreInputs p l.entries derived.inputs
  pub cuts : IsCutsAt p.plan (length l.entries) derived.cuts
  pub waits : AreWaits p l.entries derived.waiting
  pub jobs : AreJobs p l.entries derived.jobs

-- that, and the capacity
pub record IsKept (s : State) : Type 0 where
  pub derived : IsDerived (setup_of s) (log_of s) s.derived
  pub few : length s.log.record.entries ≤ s.setup.script.end
  pub plan : IsPlan s.setup.script
  pub room : s.log.record.room ≡ s.setup.script.end
  pub shown_room : s.log.shown.room ≡ 2 * s.setup.script.end

-- the act can be done
abbrev pub CanAct : Setup → World → Side → Act → Type 0
CanAct p w s (Over ending) = Unit {0}
CanAct p w s Dead = Unit {0}
CanAct p w s Take = ((part w s).alive ≡ true) × (had_life (part w s).lives ≡ true) × (own_place (part w s) < length w.log.entries)
CanAct p w s Show = (0 < length w.log.entries) × (length w.log.shown < 2 * p.plan.end)
CanAct p w s Mark = 0 < length w.log.entries
CanAct p w s Unmarked = 0 < length w.log.entries
CanAct p w s Behind = Unit {0}
CanAct p w s Append = ((part w s).alive ≡ true) × (had_life (part w s).lives ≡ true) × (own_place (part w s) ≡ length w.log.entries) × (is_open p w.log ≡ true)
