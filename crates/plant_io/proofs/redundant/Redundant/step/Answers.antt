-- The module is the one in its place, and the state after the step is the one before the next moment.
use Rattle.std.proofs.Common.{get_or, subst, sym, false}
use Rattle.std.proofs.lemmas.List.Elements.{All-get_or}
use Rattle.plant_script.specs.declared.plan.Module.{Module}
use Rattle.plant_script.specs.declared.plan.ModuleKind.TheVariants.{Switched}
use Rattle.plant_script.specs.Form.{IsModule}
use Rattle.plant_io.proofs.Whole.{of_some, next_state, in_place, within}
use Rattle.plant_io.proofs.redundant.Redundant.step.Goals as goal

-- each module of a script has its bytes in range
pub step_of-requires-clause-placed : goal.step_of-requires-clause-placed
step_of-requires-clause-placed c =
    let d : Module = record { line = 0; input = false; at_byte = 0; len = 0; kind = Switched } in
    subst (λ ms. IsModule (get_or ms c.args.index d)) (sym c.modules.ensures.list)
    (All-get_or IsModule c.args.script.now.modules c.args.index d (within _ _ _ c.requires.there) c.modules.ensures.form.modules.form)

pub returns-clause-stepped : goal.returns-clause-stepped
returns-clause-stepped c = in_place _ c.modules.result.now c.args.script.now.modules c.args.index _ c.modules.ensures.list c.step_of.ensures.stepped

pub returns-clause-due : goal.returns-clause-due
returns-clause-due c = in_place _ c.modules.result.now c.args.script.now.modules c.args.index _ c.modules.ensures.list c.step_of.ensures.due

pub returns-clause-whole : goal.returns-clause-whole
returns-clause-whole c m standing is_m at_k old =
    next_state c.args.script.now m standing c.args.k _ c.args.self.now _ at_k old (of_some _ _ m is_m (returns-clause-stepped c))
