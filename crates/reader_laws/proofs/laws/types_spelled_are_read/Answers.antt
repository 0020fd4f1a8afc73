use Rattle.reader_laws.proofs.Types.{type_read}
use Rattle.reader_laws.proofs.laws.types_spelled_are_read.Goals as goal

pub returns : goal.returns
returns c = type_read
