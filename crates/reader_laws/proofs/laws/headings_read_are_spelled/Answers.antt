use Rattle.reader_laws.proofs.Heads.{heading_takes}
use Rattle.reader_laws.proofs.laws.headings_read_are_spelled.Goals as goal

pub returns : goal.returns
returns c = heading_takes
