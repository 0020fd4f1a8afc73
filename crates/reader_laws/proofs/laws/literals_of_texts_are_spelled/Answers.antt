use Rattle.reader_laws.proofs.Texts.{text_literals}
use Rattle.reader_laws.proofs.laws.literals_of_texts_are_spelled.Goals as goal

pub returns : goal.returns
returns c = text_literals
