use Rattle.reader_laws.proofs.Tables.{one_operation}
use Rattle.reader_laws.proofs.laws.one_operation_for_an_operand.Goals as goal

pub returns : goal.returns
returns c = one_operation
