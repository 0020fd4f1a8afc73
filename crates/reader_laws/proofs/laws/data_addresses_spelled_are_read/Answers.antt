use Rattle.reader_laws.proofs.Behind.{data_behind}
use Rattle.reader_laws.proofs.laws.data_addresses_spelled_are_read.Goals as goal

pub returns : goal.returns
returns c = data_behind
