use Rattle.block_loader.proofs.Least.{least_is, none_is}
use Rattle.block_loader.proofs.faults.least_fault_law.Goals as goal

pub returns : goal.returns
returns c = record { some = least_is; none = none_is }
