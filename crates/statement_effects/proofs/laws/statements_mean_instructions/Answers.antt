-- The law is a lemma over the instruction set.
use Rattle.statement_effects.proofs.StatementsMean.{statements_mean}
use Rattle.statement_effects.proofs.laws.statements_mean_instructions.Goals as goal

pub returns : goal.returns
returns c locals s small language = statements_mean locals s small language
