use Rattle.load_image.proofs.Places.{lies_there}
use Rattle.load_image.proofs.reading.a_statement_lies_at_its_place.Goals as goal

pub returns : goal.returns
returns c = λ p bytes index number code s image. lies_there p bytes index number code s image.image
