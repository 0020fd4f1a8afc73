use Rattle.ft_connection.proofs.RunLaws.{frames_named, acks_named}
use Rattle.ft_connection.proofs.laws.long_numbers_name_what_they_say.Goals as goal

pub returns-clause-frames : goal.returns-clause-frames
returns-clause-frames c = frames_named

pub returns-clause-acks : goal.returns-clause-acks
returns-clause-acks c = acks_named
