use Rattle.std.proofs.Common.{◌≡◌, IfOk, ℕ, ◌+◌, ◌-◌, ◌*◌, ◌<◌, ◌≤◌, length}
use Rattle.mc_machine.specs.Stands.{IsRunning}
use Rattle.machine_tests.proofs.machine.play.Given as goal

abbrev pub invariant-loop-n : goal.invariant-loop-n
invariant-loop-n g l = IsRunning l.machine
