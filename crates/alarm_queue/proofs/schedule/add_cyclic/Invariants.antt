use Rattle.std.proofs.Common.{◌≡◌, drop}
use Rattle.alarm_queue.specs.Order.{add_all}
use Rattle.alarm_queue.specs.Due.{cyclic_due}
use Rattle.alarm_queue.proofs.schedule.add_cyclic.Given as goal

-- those that follow are still to be added
abbrev pub invariant-loop-ob : goal.invariant-loop-ob
invariant-loop-ob l = record {
  alarms : add_all (cyclic_due (drop l.ob-index l.cyclic) l.k) l.queue.alarms ≡ add_all (cyclic_due l.cyclic l.k) l.fn.queue.alarms;
  modules : l.queue.modules ≡ l.fn.queue.modules;
  more : l.queue.more ≡ l.fn.queue.more;
}
