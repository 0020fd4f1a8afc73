use Rattle.workload_laws.proofs.Accepted.{script_is_accepted}
use Rattle.workload_laws.proofs.laws.made_scripts_are_accepted.Goals as goal

pub returns : goal.returns
returns c = script_is_accepted
