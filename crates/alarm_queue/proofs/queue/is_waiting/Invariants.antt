use Rattle.std.proofs.Common.{◌≡◌, ◌≤◌, false, drop, length}
use Rattle.alarm_queue.specs.Order.{waits}
use Rattle.alarm_queue.proofs.queue.is_waiting.Given as goal

-- none of those from the place on is the same
abbrev pub invariant-loop-place : goal.invariant-loop-place
invariant-loop-place l = (l.place ≤ length l.alarms.items) × (waits l.alarm (drop l.place l.alarms.items) ≡ false)

abbrev pub decreases-loop-place : goal.decreases-loop-place
decreases-loop-place l = l.place
