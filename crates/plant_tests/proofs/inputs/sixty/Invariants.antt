-- One moment goes by at each turn, and there is a state for each module.
use Rattle.std.proofs.Common.{◌≡◌, length}
use Rattle.plant_tests.proofs.inputs.sixty.Given as goal

abbrev pub invariant-loop-k : goal.invariant-loop-k
invariant-loop-k l = (l.inputs.moment ≡ l.k) × (length l.inputs.states ≡ length l.script.modules)
