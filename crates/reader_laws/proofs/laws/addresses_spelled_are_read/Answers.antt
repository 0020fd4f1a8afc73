use Rattle.reader_laws.proofs.Behind.{address_behind}
use Rattle.reader_laws.proofs.laws.addresses_spelled_are_read.Goals as goal

pub returns : goal.returns
returns c = address_behind
