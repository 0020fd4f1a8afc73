use Rattle.reader_laws.proofs.Literals.{literal_spelled}
use Rattle.reader_laws.proofs.laws.literal_values_read_are_spelled.Goals as goal

pub returns : goal.returns
returns c = literal_spelled
