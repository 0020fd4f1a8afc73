use Rattle.reader_laws.proofs.Sources.{program_loaded}
use Rattle.reader_laws.proofs.laws.programs_spelled_are_loaded.Goals as goal

pub returns : goal.returns
returns c = program_loaded
