use Rattle.reader_laws.proofs.Declared.{declaration_read}
use Rattle.reader_laws.proofs.laws.declarations_spelled_are_read.Goals as goal

pub returns : goal.returns
returns c = declaration_read
