use Rattle.reader_laws.proofs.Heads.{heading_read}
use Rattle.reader_laws.proofs.laws.headings_spelled_are_read.Goals as goal

pub returns : goal.returns
returns c = heading_read
