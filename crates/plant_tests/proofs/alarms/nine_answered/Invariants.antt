use Rattle.std.proofs.Common.{◌≡◌}
use Rattle.plant_tests.proofs.alarms.nine_answered.Given as goal

abbrev pub invariant-loop-place : goal.invariant-loop-place
invariant-loop-place l = l.waiting.moment ≡ l.fn.waiting.moment
