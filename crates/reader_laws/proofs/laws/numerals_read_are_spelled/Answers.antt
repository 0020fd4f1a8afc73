use Rattle.reader_laws.proofs.Numerals.{numerals_spelled}
use Rattle.reader_laws.proofs.laws.numerals_read_are_spelled.Goals as goal

pub returns : goal.returns
returns c = numerals_spelled
