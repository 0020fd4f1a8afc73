use Rattle.reader_laws.proofs.Heads.{heads_read}
use Rattle.reader_laws.proofs.laws.heads_spelled_are_read.Goals as goal

pub returns : goal.returns
returns c = heads_read
