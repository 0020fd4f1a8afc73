use Rattle.reader_laws.proofs.Sources.{sources_read}
use Rattle.reader_laws.proofs.laws.sources_spelled_are_read.Goals as goal

pub returns : goal.returns
returns c = sources_read
