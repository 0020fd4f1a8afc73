use Rattle.ft_connection.proofs.RunLaws.{acked_low, acks_low}
use Rattle.ft_connection.proofs.laws.no_more_is_acknowledged_than_handed_over.Goals as goal

pub returns-clause-acked : goal.returns-clause-acked
returns-clause-acked c = acked_low

pub returns-clause-acks : goal.returns-clause-acks
returns-clause-acks c = acks_low
