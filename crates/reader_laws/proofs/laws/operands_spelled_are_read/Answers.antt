use Rattle.reader_laws.proofs.Read.{operand_read}
use Rattle.reader_laws.proofs.laws.operands_spelled_are_read.Goals as goal

pub returns : goal.returns
returns c = operand_read
