-- The states after the moment.
use Rattle.std.proofs.Common.{subst, sym}
use Rattle.plant_io.specs.Inputs.{InputsKept, AreStates, states_before}
use Rattle.plant_io.proofs.States.{are_stepped, are_whole}
use Rattle.plant_io.proofs.inputs.Inputs.step.Goals as goal

pub returns-clause-states : goal.returns-clause-states
returns-clause-states c before h =
    are_stepped c.args.script.now _ c.args.k before _ _
    (subst (λ (v : InputsKept). AreStates c.args.script.now.modules before v.states) (sym c.self.view_is) h) c.step_all.ensures.stepped

pub returns-clause-whole : goal.returns-clause-whole
returns-clause-whole c standing at h =
    are_whole c.args.script.now standing _ c.args.k _ _ at
    (subst (λ (v : InputsKept). AreStates c.args.script.now.modules (states_before c.args.script.now standing c.args.k) v.states) (sym c.self.view_is) h) c.step_all.ensures.stepped
