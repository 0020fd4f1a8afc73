use Rattle.reader_laws.proofs.Calls.{literal_read}
use Rattle.reader_laws.proofs.laws.literals_spelled_are_read.Goals as goal

pub returns : goal.returns
returns c = literal_read
