-- What holds of the lines that were read without fault.
use Rattle.std.specs.Prelude.{◌≡◌, ℕ, ◌≤◌, ◌<◌, min, All, IfSome, List}
use Rattle.plant_script.specs.declared.plan.Event.{Event}
use Rattle.plant_script.specs.FirstPass.{Reading}
use Rattle.plant_script.specs.Plan.{Plan, AreModules, AreEvents}

abbrev pub IsEnd : ℕ → Type 0
IsEnd end = (1 ≤ end) × (end ≤ 200000)

-- before the line of this number
pub record IsSound (r : Reading) (number : ℕ) : Type 0 where
  pub modules : AreModules r.modules
  pub events : AreEvents r.modules r.events
  pub under : All (λ event. event.moment ≤ min r.floor 200000) r.events
  pub before : All (λ event. event.line < number) r.events
  pub end : IfSome r.end IsEnd

-- behind the last line
pub record AreParts (plan : Plan) : Type 0 where
  pub modules : AreModules plan.modules
  pub events : AreEvents plan.modules plan.events
  pub end : IsEnd plan.end
