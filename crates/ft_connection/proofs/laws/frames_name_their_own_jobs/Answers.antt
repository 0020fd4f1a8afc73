use Rattle.ft_connection.proofs.RunLaws.{frames_own}
use Rattle.ft_connection.proofs.laws.frames_name_their_own_jobs.Goals as goal

pub returns : goal.returns
returns c = frames_own
