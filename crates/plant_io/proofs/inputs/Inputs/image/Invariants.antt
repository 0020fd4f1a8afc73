-- The bytes before place i are those of the image.
use Rattle.std.proofs.Common.{◌≡◌, ℕ, ◌<◌, length, get_or}
use Rattle.plant_script.specs.declared.plan.Module.{Module}
use Rattle.plant_io.specs.PairValue.{PairState}
use Rattle.plant_io.specs.Inputs.{image_byte, AreStates}
use Rattle.plant_io.proofs.inputs.Inputs.image.Given as goal

abbrev pub invariant-loop-i : goal.invariant-loop-i
invariant-loop-i l =
    (length l.bytes ≡ 64) × ((states : Module → PairState) → AreStates l.script.modules states l.self.states → (j : ℕ) → j < l.i
    → get_or l.bytes j 0 ≡ image_byte l.script l.a_runs l.b_runs states l.k j)
