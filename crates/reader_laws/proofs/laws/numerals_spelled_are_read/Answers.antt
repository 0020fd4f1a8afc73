use Rattle.reader_laws.proofs.Numerals.{numerals_read}
use Rattle.reader_laws.proofs.laws.numerals_spelled_are_read.Goals as goal

pub returns : goal.returns
returns c = numerals_read
