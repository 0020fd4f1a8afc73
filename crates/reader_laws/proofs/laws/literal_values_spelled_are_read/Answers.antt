use Rattle.reader_laws.proofs.Literals.{literal_read}
use Rattle.reader_laws.proofs.laws.literal_values_spelled_are_read.Goals as goal

pub returns : goal.returns
returns c = literal_read
