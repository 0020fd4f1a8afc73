use Rattle.reader_laws.proofs.Assigned.{assignments_read}
use Rattle.reader_laws.proofs.laws.assignments_spelled_are_read.Goals as goal

pub returns : goal.returns
returns c = assignments_read
