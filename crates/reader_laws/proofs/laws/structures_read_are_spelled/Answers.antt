use Rattle.reader_laws.proofs.Sections.{structure_takes}
use Rattle.reader_laws.proofs.laws.structures_read_are_spelled.Goals as goal

pub returns : goal.returns
returns c = structure_takes
