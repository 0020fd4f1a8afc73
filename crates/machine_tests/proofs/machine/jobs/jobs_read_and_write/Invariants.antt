use Rattle.std.proofs.Common.{◌≡◌, IfOk, ℕ, ◌+◌, ◌-◌, ◌*◌, ◌<◌, ◌≤◌, length}
use Rattle.mc_machine.specs.Stands.{IsRunning}
use Rattle.machine_tests.proofs.machine.jobs.jobs_read_and_write.Given as goal

abbrev pub invariant-loop-job : goal.invariant-loop-job
invariant-loop-job g l = IsRunning l.machine
