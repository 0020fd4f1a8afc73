use Rattle.reader_laws.proofs.Sources.{one_source}
use Rattle.reader_laws.proofs.laws.spellings_are_of_one_source.Goals as goal

pub returns : goal.returns
returns c = one_source
