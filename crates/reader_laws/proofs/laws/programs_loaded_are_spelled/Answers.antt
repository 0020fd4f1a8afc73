use Rattle.reader_laws.proofs.Sources.{program_spelled}
use Rattle.reader_laws.proofs.laws.programs_loaded_are_spelled.Goals as goal

pub returns : goal.returns
returns c = program_spelled
