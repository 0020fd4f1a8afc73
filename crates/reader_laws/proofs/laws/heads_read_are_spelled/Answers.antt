use Rattle.reader_laws.proofs.Heads.{heads_taken}
use Rattle.reader_laws.proofs.laws.heads_read_are_spelled.Goals as goal

pub returns : goal.returns
returns c = heads_taken
