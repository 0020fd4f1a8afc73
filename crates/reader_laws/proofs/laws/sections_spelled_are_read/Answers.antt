use Rattle.reader_laws.proofs.Sections.{section_read}
use Rattle.reader_laws.proofs.laws.sections_spelled_are_read.Goals as goal

pub returns : goal.returns
returns c = section_read
