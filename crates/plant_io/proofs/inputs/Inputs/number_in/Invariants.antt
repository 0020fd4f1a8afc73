-- The number so far is that of the first i bytes.
use Rattle.std.proofs.Common.{◌≡◌, ◌+◌, ◌^◌, ◌<◌}
use Rattle.std.specs.Prelude.{slice_get}
use Rattle.plant_script.specs.declared.plan.Module.{Module}
use Rattle.plant_io.specs.PairValue.{PairState}
use Rattle.plant_io.specs.Inputs.{held_by, number_of, AreStates}
use Rattle.plant_io.proofs.inputs.Inputs.number_in.Given as goal

abbrev pub invariant-loop-i : goal.invariant-loop-i
invariant-loop-i l =
    ((states : Module → PairState) → AreStates l.script.modules states l.self.states
    → l.number ≡ number_of (λ i. held_by l.script l.a_runs l.b_runs states l.k (l.addr + i) (slice_get l.script.modules l.place)) l.i)
    × (l.number < 256 ^ l.i)
