use Rattle.reader_laws.proofs.Sections.{temporaries_read}
use Rattle.reader_laws.proofs.laws.temporaries_spelled_are_read.Goals as goal

pub returns : goal.returns
returns c = temporaries_read
