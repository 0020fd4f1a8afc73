use Rattle.reader_laws.proofs.Values.{value_read}
use Rattle.reader_laws.proofs.laws.values_spelled_are_read.Goals as goal

pub returns : goal.returns
returns c = value_read
