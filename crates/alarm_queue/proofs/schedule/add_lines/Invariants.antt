use Rattle.std.proofs.Common.{◌≡◌, ◌+◌}
use Rattle.alarm_queue.specs.Cursor.{IsPassing}
use Rattle.alarm_queue.proofs.schedule.add_lines.Given as goal

-- the cursor has come so far; each line that was added uses up capacity for one
abbrev pub invariant-loop-at : goal.invariant-loop-at
invariant-loop-at l = record {
  passing : IsPassing l.lines l.k l.fn.queue.alarms l.at l.queue.alarms;
  modules : l.queue.modules ≡ l.fn.queue.modules;
  more : l.queue.more + l.at ≡ l.fn.queue.more + l.cursor;
}
