use Rattle.reader_laws.proofs.Sources.{sources_spelled}
use Rattle.reader_laws.proofs.laws.sources_read_are_spelled.Goals as goal

pub returns : goal.returns
returns c = sources_spelled
