use Rattle.workload_laws.proofs.Sources.{source_is_accepted}
use Rattle.workload_laws.proofs.laws.made_sources_are_accepted.Goals as goal

pub returns : goal.returns
returns c = source_is_accepted
