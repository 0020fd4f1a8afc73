-- One state more is as before the first moment.
use Rattle.std.proofs.Common.{rules}
use Rattle.plant_io.proofs.States.{none_fresh, more_fresh}
use Rattle.plant_io.proofs.inputs.fresh_states.Goals as goal

pub loop-module-init : goal.loop-module-init
loop-module-init c = none_fresh _ c.new-states.ensures.items

pub loop-module-preserved : goal.loop-module-preserved
loop-module-preserved c = more_fresh c.loop-module._module c.loop-module.states.items c.push.new.self.items c.new.result c.loop-module.invariant c.new.ensures (search rules)
