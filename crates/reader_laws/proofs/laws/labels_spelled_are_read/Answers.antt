use Rattle.reader_laws.proofs.Calls.{label_read}
use Rattle.reader_laws.proofs.laws.labels_spelled_are_read.Goals as goal

pub returns : goal.returns
returns c = label_read
