use Rattle.reader_laws.proofs.Behind.{system_behind}
use Rattle.reader_laws.proofs.laws.system_functions_spelled_are_read.Goals as goal

pub returns : goal.returns
returns c = system_behind
