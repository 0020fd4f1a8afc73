-- What a plant script means: its modules, its events and its end.
use Rattle.std.specs.Prelude.{◌≡◌, ℕ, ◌≤◌, ◌<◌, ◌+◌, Bool, true, false, ◌&&◌, not, if◌then◌else◌, List, [], ◌∷◌, Option, Some, None, is_some, All, nat_le, nat_lt, count_by}
use Rattle.std.specs.List.{AllPairs, find}
use Rattle.std.specs.Option.{option_map}
use Rattle.s7_events.specs.declared.entry.Side.{Side}
use Rattle.s7_events.specs.declared.entry.Side.TheVariants.{A, B}
use Rattle.plant_script.specs.declared.plan.Module.{Module}
use Rattle.plant_script.specs.declared.plan.ModuleKind.{ModuleKind}
use Rattle.plant_script.specs.declared.plan.ModuleKind.TheVariants.{Switched, OneSided, Redundant}
use Rattle.plant_script.specs.declared.plan.Event.{Event}
use Rattle.plant_script.specs.declared.plan.What.{What}
use Rattle.plant_script.specs.declared.plan.What.TheVariants.{Input, Alarm, Job, Fail, Return, Suspect}
use Rattle.plant_script.specs.declared.second_pass.Failures.{Failures}
use Rattle.plant_script.specs.Form.{IsModule, IsWritten}

-- the modules and the events by their lines, and the number of entries at which the record ends
pub record Plan : Type 0 where
  pub modules : List Module
  pub events : List Event
  pub end : ℕ

-- a module of inputs that has the byte
abbrev pub has_input : ℕ → Module → Bool
has_input at_byte m = m.input && nat_le m.at_byte at_byte && nat_lt at_byte (m.at_byte + m.len)

-- an input of such a module names its side
abbrev pub needs_side : ModuleKind → Bool
needs_side Switched = false
needs_side (OneSided side) = false
needs_side (Redundant time) = true

abbrev pub fits_side : Module → Bool → Bool
fits_side m sided = if needs_side m.kind then sided else not sided

-- both are modules of inputs, or both of outputs, and share a byte
abbrev pub shares_byte : Module → Module → Bool
shares_byte m n =
    (if m.input then n.input else not n.input) && nat_lt m.at_byte (n.at_byte + n.len) && nat_lt n.at_byte (m.at_byte + m.len)

-- a RETURN or a SUSPECT line
abbrev pub is_comeback : What → Bool
is_comeback (Input at_byte side value) = false
is_comeback (Alarm ob info) = false
is_comeback (Job job) = false
is_comeback (Fail side late) = false
is_comeback (Return side fresh) = true
is_comeback (Suspect side pass) = true

abbrev pub comebacks : List Event → ℕ
comebacks events = count_by (λ event. is_comeback event.what) events

-- an ALARM or a JOB line
abbrev pub is_alarm_or_job : What → Bool
is_alarm_or_job (Input at_byte side value) = false
is_alarm_or_job (Alarm ob info) = true
is_alarm_or_job (Job job) = true
is_alarm_or_job (Fail side late) = false
is_alarm_or_job (Return side fresh) = false
is_alarm_or_job (Suspect side pass) = false

-- the line of the first ALARM or JOB event
unfoldable pub first_alarm_or_job : Plan → Option ℕ
first_alarm_or_job plan = option_map (λ event. event.line) (find (λ event. is_alarm_or_job event.what) plan.events)

-- whether it stops the side
abbrev pub stops : What → Side → Bool
stops (Input at_byte other value) side = false
stops (Alarm ob info) side = false
stops (Job job) side = false
stops (Fail A late) A = true
stops (Fail A late) B = false
stops (Fail B late) A = false
stops (Fail B late) B = true
stops (Return other fresh) side = false
stops (Suspect other pass) side = false

-- ---- the order of FAIL and RETURN

-- no side has failed
abbrev pub no_failures : Failures
no_failures = record { a = None; b = None }

-- the moment at which a side failed, where it has not returned since
abbrev pub failed_at : Failures → Side → Option ℕ
failed_at failures A = failures.a
failed_at failures B = failures.b

abbrev pub with_failure : Failures → Side → Option ℕ → Failures
with_failure failures A moment = record failures { a = moment }
with_failure failures B moment = record failures { b = moment }

-- a RETURN is to be later than the FAIL before it
abbrev pub is_not_later : Option ℕ → ℕ → Bool
is_not_later None moment = true
is_not_later (Some failed) moment = nat_le moment failed

-- a side fails that has failed, or returns that has not, or not later than it failed
abbrev pub breaks_order : Failures → ℕ → What → Bool
breaks_order failures moment (Input at_byte side value) = false
breaks_order failures moment (Alarm ob info) = false
breaks_order failures moment (Job job) = false
breaks_order failures moment (Fail side late) = is_some (failed_at failures side)
breaks_order failures moment (Return side fresh) = is_not_later (failed_at failures side) moment
breaks_order failures moment (Suspect side pass) = false

abbrev pub after_what : Failures → ℕ → What → Failures
after_what failures moment (Input at_byte side value) = failures
after_what failures moment (Alarm ob info) = failures
after_what failures moment (Job job) = failures
after_what failures moment (Fail side late) = with_failure failures side (Some moment)
after_what failures moment (Return side fresh) = with_failure failures side None
after_what failures moment (Suspect side pass) = failures

-- no event breaks the order, where the sides failed at these moments before
abbrev pub InOrder : Failures → List Event → Type 0
InOrder failures [] = Unit {0}
InOrder failures (event ∷ events) =
    (breaks_order failures event.moment event.what ≡ false) × InOrder (after_what failures event.moment event.what) events

-- ---- a script without fault

-- the module of the byte takes an input with a side, or without one
abbrev pub HasFitting : Option Module → Option Side → Type 0
HasFitting None side = ⊥
HasFitting (Some m) side = fits_side m (is_some side) ≡ true

-- an input has a module of inputs that takes it; every other event needs none
abbrev pub HasModule : List Module → What → Type 0
HasModule modules (Input at_byte side value) = HasFitting (find (has_input at_byte) modules) side
HasModule modules (Alarm ob info) = Unit {0}
HasModule modules (Job job) = Unit {0}
HasModule modules (Fail side late) = Unit {0}
HasModule modules (Return side fresh) = Unit {0}
HasModule modules (Suspect side pass) = Unit {0}

-- modules of their ranges, no two of which share a byte
pub record AreModules (modules : List Module) : Type 0 where
  pub form : All IsModule modules
  pub apart : AllPairs (λ earlier later. shares_byte later earlier ≡ false) modules

-- events of their ranges, by their lines; at most 64 of them are RETURN or SUSPECT
pub record AreEvents (modules : List Module) (events : List Event) : Type 0 where
  pub form : All (λ event. IsWritten event.what) events
  pub inputs : All (λ event. HasModule modules event.what) events
  pub rising : AllPairs (λ earlier later. earlier.moment ≤ later.moment) events
  pub lines : AllPairs (λ earlier later. earlier.line < later.line) events
  pub comebacks : comebacks events ≤ 64

-- what is supported: no RETURN and no SUSPECT line
abbrev pub IsBuilt : Plan → Type 0
IsBuilt plan = All (λ event. is_comeback event.what ≡ false) plan.events

-- the plan of a script without fault
pub record IsPlan (plan : Plan) : Type 0 where
  pub end_low : 1 ≤ plan.end
  pub end_high : plan.end ≤ 200000
  pub modules : AreModules plan.modules
  pub events : AreEvents plan.modules plan.events
  pub before_end : All (λ event. event.moment < plan.end) plan.events
  pub rising : AllPairs (λ earlier later. earlier.moment ≤ later.moment) plan.events
  pub order : InOrder no_failures plan.events
  pub built : IsBuilt plan
