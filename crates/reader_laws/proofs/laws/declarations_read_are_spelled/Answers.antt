use Rattle.reader_laws.proofs.Declared.{declaration_takes}
use Rattle.reader_laws.proofs.laws.declarations_read_are_spelled.Goals as goal

pub returns : goal.returns
returns c = declaration_takes
