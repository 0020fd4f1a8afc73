use Rattle.std.proofs.Common.{◌≡◌}
use Rattle.plant_tests.proofs.alarms.cyclic_alarms_are_due_at_the_ends_of_their_periods.Given as goal

abbrev pub invariant-loop-k : goal.invariant-loop-k
invariant-loop-k g l = l.waiting.moment ≡ l.k
