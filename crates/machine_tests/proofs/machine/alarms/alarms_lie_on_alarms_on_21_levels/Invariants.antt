use Rattle.std.proofs.Common.{◌≡◌, IfOk, ℕ, ◌+◌, ◌-◌, ◌*◌, ◌<◌, ◌≤◌, length}
use Rattle.mc_machine.specs.Stands.{IsRunning}
use Rattle.machine_tests.proofs.machine.alarms.alarms_lie_on_alarms_on_21_levels.Given as goal

abbrev pub invariant-loop-ob : goal.invariant-loop-ob
invariant-loop-ob g l = IsRunning l.machine

abbrev pub invariant-loop-ob-2 : goal.invariant-loop-ob-2
invariant-loop-ob-2 g l =
    (goal.iterator-loop-ob-2 g).can_next l.ob-iterator × (goal.iterator-loop-ob-2 g).is_finite l.ob-iterator ×
    IsRunning l.machine

abbrev pub invariant-loop-ob-3 : goal.invariant-loop-ob-3
invariant-loop-ob-3 g l = IsRunning l.machine
