use Rattle.std.proofs.Common.{◌≡◌, ◌≤◌}
use Rattle.plant_tests.proofs.alarms.pass.Given as goal

abbrev pub invariant-loop-k : goal.invariant-loop-k
invariant-loop-k l = (l.waiting.moment ≡ l.k) × (l.k ≤ l.to)
