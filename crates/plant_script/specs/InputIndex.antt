-- The index of the inputs: for each byte, without a side or on one, its values by their moments.
use Rattle.std.specs.Prelude.{◌≡◌, ℕ, ◌+◌, ◌*◌, ◌<◌, ◌≤◌, List, [], ◌∷◌, ◌++◌, length, Option, Some, None, nat_le, slice_index_or, slice_set, if◌then◌else◌}
use Rattle.std.specs.List.{fold, AllPairs}
use Rattle.s7_events.specs.declared.entry.Side.{Side}
use Rattle.s7_events.specs.declared.entry.Side.TheVariants.{A, B}
use Rattle.plant_script.specs.declared.plan.Event.{Event}
use Rattle.plant_script.specs.declared.plan.What.{What}
use Rattle.plant_script.specs.declared.plan.What.TheVariants.{Input, Alarm, Job, Fail, Return, Suspect}
use Rattle.plant_script.specs.declared.input_index.Setting.{Setting}
use Rattle.plant_script.specs.Values.{value_given}

-- the slot of a byte and a side
abbrev pub slot_of : ℕ → Option Side → ℕ
slot_of at_byte None = 3 * at_byte
slot_of at_byte (Some A) = 3 * at_byte + 1
slot_of at_byte (Some B) = 3 * at_byte + 2

abbrev pub with_setting : Option ℕ → ℕ → List Setting → List Setting
with_setting None moment others = others
with_setting (Some value) moment others = record { moment = moment; value = value } ∷ others

-- what the events give a byte
abbrev pub settings_of : ℕ → Option Side → List Event → List Setting
settings_of at_byte side [] = []
settings_of at_byte side (e ∷ es) = with_setting (value_given at_byte side e.what) e.moment (settings_of at_byte side es)

-- the last value that is not later than the moment
abbrev pub last_setting : List Setting → ℕ → Option ℕ
last_setting settings moment = fold (λ before s. if nat_le s.moment moment then Some s.value else before) None settings

-- the moments do not fall
abbrev pub AreRising : List Setting → Type 0
AreRising settings = AllPairs (λ earlier later. earlier.moment ≤ later.moment) settings

-- the value at the place before is not later than the moment, those from the place on are
pub record IsSplitAt (moment : ℕ) (settings : List Setting) (place : ℕ) : Type 0 where
  pub before : (d : Setting) (k : ℕ) → k + 1 ≡ place → (slice_index_or settings k d).moment ≤ moment
  pub behind : (d : Setting) (k : ℕ) → place ≤ k → k < length settings → moment < (slice_index_or settings k d).moment

-- an input of one of the bytes that have slots
abbrev pub IsBelow : What → Type 0
IsBelow (Input at_byte side value) = at_byte < 1024
IsBelow (Alarm ob info) = Unit {0}
IsBelow (Job job) = Unit {0}
IsBelow (Fail side late) = Unit {0}
IsBelow (Return side fresh) = Unit {0}
IsBelow (Suspect side pass) = Unit {0}

-- the slots with what happens at a moment
abbrev pub with_what : List (List Setting) → ℕ → What → List (List Setting)
with_what slots moment (Input at_byte side value) =
    slice_set slots (slot_of at_byte side) (slice_index_or slots (slot_of at_byte side) [] ++ record { moment = moment; value = value } ∷ [])
with_what slots moment (Alarm ob info) = slots
with_what slots moment (Job job) = slots
with_what slots moment (Fail side late) = slots
with_what slots moment (Return side fresh) = slots
with_what slots moment (Suspect side pass) = slots

abbrev pub with_event : List (List Setting) → Event → List (List Setting)
with_event slots event = with_what slots event.moment event.what

-- so many slots, all without values
pub record AreEmpty (count : ℕ) (slots : List (List Setting)) : Type 0 where
  pub size : length slots ≡ count
  pub none : (k : ℕ) → slice_index_or slots k [] ≡ []

-- each slot has what the events give its byte
pub record IsIndex (slots : List (List Setting)) (events : List Event) : Type 0 where
  pub size : length slots ≡ 3072
  pub each : (at_byte : ℕ) (side : Option Side) → slice_index_or slots (slot_of at_byte side) [] ≡ settings_of at_byte side events
