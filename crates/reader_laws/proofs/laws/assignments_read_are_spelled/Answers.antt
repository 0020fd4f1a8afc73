use Rattle.reader_laws.proofs.Assigned.{assignments_taken}
use Rattle.reader_laws.proofs.laws.assignments_read_are_spelled.Goals as goal

pub returns : goal.returns
returns c = assignments_taken
