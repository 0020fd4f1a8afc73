use Rattle.stl_reader.proofs.Enough.{more_turns}
use Rattle.stl_reader.proofs.laws.more_turns_read_the_same.Goals as goal

pub returns : goal.returns
returns c = more_turns
