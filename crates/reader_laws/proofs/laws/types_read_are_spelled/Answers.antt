use Rattle.reader_laws.proofs.Typed.{type_takes}
use Rattle.reader_laws.proofs.laws.types_read_are_spelled.Goals as goal

pub returns : goal.returns
returns c = type_takes
