use Rattle.reader_laws.proofs.Bodies.{body_takes}
use Rattle.reader_laws.proofs.laws.bodies_read_are_spelled.Goals as goal

pub returns : goal.returns
returns c = body_takes
