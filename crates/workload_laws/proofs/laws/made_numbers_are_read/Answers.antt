use Rattle.workload_laws.proofs.Words.{numbers_are_read}
use Rattle.workload_laws.proofs.laws.made_numbers_are_read.Goals as goal

-- src/laws.rt:18:1
pub returns : goal.returns
returns c = numbers_are_read
