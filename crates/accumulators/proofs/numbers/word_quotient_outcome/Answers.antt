use Rattle.accumulators.proofs.Wide.{quotient_in_64, remainder_in_64}
use Rattle.accumulators.proofs.numbers.word_quotient_outcome.Goals as goal

pub returns-clause-value : goal.returns-clause-value
returns-clause-value c =
    let quotient = quotient_in_64 c.args.left c.args.right c.requires.left_range c.requires.right_range
    in let remainder = remainder_in_64 c.args.left c.args.right c.requires.left_range c.requires.right_range
    in cc
