use Rattle.std.proofs.Common.{◌≡◌, ◌+◌, subst}
use Rattle.alarm_queue.specs.Order.{add_all}
use Rattle.alarm_queue.specs.Due.{due_at}
use Rattle.alarm_queue.specs.contracts.waiting.Waiting.{the_view}
use Rattle.std.proofs.Common.{Some}
use Rattle.alarm_queue.proofs.DueLaws.{state_due}
use Rattle.alarm_queue.proofs.waiting.Waiting.due.Goals as goal

pub returns : goal.returns
returns c =
    subst (λ s. the_view (record { lines = c.self.inside.lines; cyclic = c.self.inside.cyclic; cursor = c.add_lines-self-inside.result; last = Some c.args.k; queue = c.add_lines-self-inside.new.queue; redundancy_left = c.self.inside.redundancy_left })
    ≡ record { schedule = s.schedule; waiting = add_all (due_at s.schedule c.args.k) s.waiting; moment = c.args.k + 1; redundancy_left = s.redundancy_left }) c.self.view_is
    (state_due c.self.inside.lines.items c.self.inside.cyclic.items c.deref-2.result.now c.deref.result.now c.self.inside.queue c.add_cyclic.new.queue c.add_lines-self-inside.new.queue c.args.k c.self.inside.redundancy_left
    c.deref-2.ensures.value c.deref.ensures.value c.add_cyclic.ensures c.add_lines-self-inside.ensures.alarms c.add_lines-self-inside.ensures.modules)
