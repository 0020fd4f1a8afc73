-- Each module has a state, as before the first moment.
use Rattle.std.proofs.Common.{length, ap}
use Rattle.plant_io.proofs.States.{fresh_states, fresh_within}
use Rattle.plant_io.proofs.inputs.Inputs.new.Goals as goal

pub invariant_of-result : goal.invariant_of-result
invariant_of-result c = fresh_within _ _ c.in_ok-states.ensures

pub returns-clause-states : goal.returns-clause-states
returns-clause-states c = fresh_states c.args.script.now.modules _ _ (ap (λ ms. length ms) c.modules.ensures.list) c.in_ok-states.ensures
