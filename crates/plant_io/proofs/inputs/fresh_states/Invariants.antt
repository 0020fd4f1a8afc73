-- There are as many states as turns.
use Rattle.plant_io.specs.Inputs.{AreFresh}
use Rattle.plant_io.proofs.inputs.fresh_states.Given as goal

abbrev pub invariant-loop-module : goal.invariant-loop-module
invariant-loop-module l = AreFresh l._module l.states.items
