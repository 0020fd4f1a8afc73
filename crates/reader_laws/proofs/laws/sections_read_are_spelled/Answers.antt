use Rattle.reader_laws.proofs.Sections.{section_takes}
use Rattle.reader_laws.proofs.laws.sections_read_are_spelled.Goals as goal

pub returns : goal.returns
returns c = section_takes
