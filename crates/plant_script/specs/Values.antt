-- The value that an input line gives a byte.
use Rattle.std.specs.Prelude.{ℕ, ◌==◌, ◌&&◌, Bool, true, false, List, Option, Some, None, nat_le, if◌then◌else◌}
use Rattle.std.specs.List.{fold}
use Rattle.std.specs.Option.{option_or}
use Rattle.s7_events.specs.declared.entry.Side.{Side}
use Rattle.s7_events.specs.declared.entry.Side.TheVariants.{A, B}
use Rattle.plant_script.specs.declared.plan.Event.{Event}
use Rattle.plant_script.specs.declared.plan.What.{What}
use Rattle.plant_script.specs.declared.plan.What.TheVariants.{Input, Alarm, Job, Fail, Return, Suspect}

-- whether both name one side, or neither names one
abbrev pub same_choice : Option Side → Option Side → Bool
same_choice None None = true
same_choice None (Some A) = false
same_choice None (Some B) = false
same_choice (Some A) None = false
same_choice (Some A) (Some A) = true
same_choice (Some A) (Some B) = false
same_choice (Some B) None = false
same_choice (Some B) (Some A) = false
same_choice (Some B) (Some B) = true

-- the value that the byte has from then on, on the side where one is named
abbrev pub value_given : ℕ → Option Side → What → Option ℕ
value_given at_byte side (Input place other value) = if place == at_byte && same_choice other side then Some value else None
value_given at_byte side (Alarm ob info) = None
value_given at_byte side (Job job) = None
value_given at_byte side (Fail other late) = None
value_given at_byte side (Return other fresh) = None
value_given at_byte side (Suspect other pass) = None

-- the same of an event that is not later than the moment
abbrev pub value_by_event : ℕ → Option Side → ℕ → Event → Option ℕ
value_by_event at_byte side moment event = if nat_le event.moment moment then value_given at_byte side event.what else None

-- the value by the last of the events that gives one
abbrev pub last_value : List Event → ℕ → Option Side → ℕ → Option ℕ
last_value events at_byte side moment = fold (λ before event. option_or (value_by_event at_byte side moment event) before) None events
