use Rattle.ft_connection.proofs.RunLaws.{handed_prefix, handed_count}
use Rattle.ft_connection.proofs.laws.jobs_are_handed_over_once_and_in_order.Goals as goal

pub returns-clause-prefix : goal.returns-clause-prefix
returns-clause-prefix c = handed_prefix

pub returns-clause-count : goal.returns-clause-count
returns-clause-count c = handed_count
