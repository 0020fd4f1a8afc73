use Rattle.reader_laws.proofs.Compared.{comparison_read}
use Rattle.reader_laws.proofs.laws.comparisons_spelled_are_read.Goals as goal

pub returns : goal.returns
returns c = comparison_read
