use Rattle.std.proofs.Common.{◌≡◌, ◌++◌, drop}
use Rattle.std.specs.List.{filter_map}
use Rattle.alarm_queue.specs.Due.{alarm_of}
use Rattle.alarm_queue.proofs.schedule.line_alarms.Given as goal

-- those so far, and those that follow
abbrev pub invariant-loop-event : goal.invariant-loop-event
invariant-loop-event l = l.lines.items ++ filter_map alarm_of (drop l.event-index l.events) ≡ filter_map alarm_of l.events
