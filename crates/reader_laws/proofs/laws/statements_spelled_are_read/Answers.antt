use Rattle.reader_laws.proofs.Whole.{statement_read}
use Rattle.reader_laws.proofs.laws.statements_spelled_are_read.Goals as goal

pub returns : goal.returns
returns c = statement_read
