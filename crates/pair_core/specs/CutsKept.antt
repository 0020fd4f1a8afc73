-- What a script's lines made of both sides, as the moments go on.
use Rattle.std.specs.Prelude.{◌≡◌, ℕ, ◌≤◌, ◌<◌, length, take, drop, All}
use Rattle.s7_events.specs.declared.entry.Side.{Side}
use Rattle.plant_script.specs.Plan.{Plan}
use Rattle.pair_core.specs.declared.cuts.Cuts.{Cuts}
use Rattle.pair_core.specs.declared.cuts.Soundness.TheVariants.{Sound}
use Rattle.pair_core.specs.Sides.{of_side}
use Rattle.pair_core.specs.Cuts.{soundness, soundness_from}

-- what the lines that were applied made of each side; none of them is later than the moment
pub record IsCutsBefore (plan : Plan) (moment : ℕ) (cuts : Cuts) : Type 0 where
  pub within : cuts.applied ≤ length plan.events
  pub passed : All (λ event. event.moment ≤ moment) (take cuts.applied plan.events)
  pub sides : (s : Side) → of_side cuts.made s ≡ soundness_from Sound (take cuts.applied plan.events) s moment

-- what the lines up to the moment made of each side; those that were not applied are later
pub record IsCutsAt (plan : Plan) (moment : ℕ) (cuts : Cuts) : Type 0 where
  pub within : cuts.applied ≤ length plan.events
  pub passed : All (λ event. event.moment ≤ moment) (take cuts.applied plan.events)
  pub due : All (λ event. moment < event.moment) (drop cuts.applied plan.events)
  pub sides : (s : Side) → of_side cuts.made s ≡ soundness plan s moment
