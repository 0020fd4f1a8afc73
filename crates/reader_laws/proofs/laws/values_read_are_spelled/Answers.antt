use Rattle.reader_laws.proofs.Values.{value_spelled}
use Rattle.reader_laws.proofs.laws.values_read_are_spelled.Goals as goal

pub returns : goal.returns
returns c = value_spelled
