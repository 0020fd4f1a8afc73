use Rattle.reader_laws.proofs.Spread.{parts_read}
use Rattle.reader_laws.proofs.laws.parts_are_tokens.Goals as goal

pub returns : goal.returns
returns c = parts_read
