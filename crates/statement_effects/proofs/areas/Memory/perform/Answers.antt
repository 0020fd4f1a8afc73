-- A statement begins and ends no block.
use Rattle.std.proofs.Common.{◌≡◌, subst}
use Rattle.level_stack.specs.Levels.{block_counts}
use Rattle.statement_effects.specs.State.{Memory}
use Rattle.statement_effects.specs.declared.instruction.Flow.{Flow}
use Rattle.statement_effects.proofs.Counts.{effect_begun}
use Rattle.statement_effects.proofs.areas.Memory.perform.Goals as goal

pub returns-in-Some-clause-blocks : goal.returns-in-Some-clause-blocks
returns-in-Some-clause-blocks c =
    subst (λ (x : Memory × Flow). block_counts x.0.levels ≡ block_counts c.args.self.now.levels) c.execute.ensures.effect (effect_begun c.in-Some.i c.args.self.now)
