use Rattle.reader_laws.proofs.Sections.{temporaries_takes}
use Rattle.reader_laws.proofs.laws.temporaries_read_are_spelled.Goals as goal

pub returns : goal.returns
returns c = temporaries_takes
