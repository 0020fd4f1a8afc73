use Rattle.reader_laws.proofs.Behind.{instance_behind}
use Rattle.reader_laws.proofs.laws.instances_spelled_are_read.Goals as goal

pub returns : goal.returns
returns c = instance_behind
