use Rattle.reader_laws.proofs.Bodies.{body_read}
use Rattle.reader_laws.proofs.laws.bodies_spelled_are_read.Goals as goal

pub returns : goal.returns
returns c = body_read
