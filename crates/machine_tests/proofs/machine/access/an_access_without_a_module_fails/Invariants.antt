use Rattle.std.proofs.Common.{◌≡◌, IfOk, ℕ, ◌+◌, ◌-◌, ◌*◌, ◌<◌, ◌≤◌, length}
use Rattle.machine_tests.proofs.machine.access.an_access_without_a_module_fails.Given as goal

abbrev pub invariant-loop-text : goal.invariant-loop-text
invariant-loop-text g l = Unit {0}
