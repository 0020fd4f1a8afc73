-- The state after the step is the one before the next moment.
use Rattle.std.proofs.Common.{arith}
use Rattle.std.proofs.lemmas.Grind.{common_steps}
use Rattle.plant_io.proofs.Whole.{next_state}
use Rattle.plant_io.proofs.redundant.Redundant.step_of.Goals as goal

pub returns-clause-stepped : goal.returns-clause-stepped
returns-clause-stepped c = grind (arith, common_steps)

pub returns-clause-whole : goal.returns-clause-whole
returns-clause-whole c standing at_k old =
    next_state c.args.script.now c.args.m.now standing c.args.k _ c.args.self.now _ at_k old (returns-clause-stepped c)
