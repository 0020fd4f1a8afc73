use Rattle.reader_laws.proofs.Sections.{structure_read}
use Rattle.reader_laws.proofs.laws.structures_spelled_are_read.Goals as goal

pub returns : goal.returns
returns c = structure_read
