use Rattle.std.proofs.Common.{◌≡◌, true, sym, subst, rules}
use Rattle.alarm_queue.specs.Order.{due_alarm}
use Rattle.alarm_queue.specs.Capacity.{has_slot, slots}
use Rattle.alarm_queue.specs.Waiting.{source_by, is_its_line}
use Rattle.alarm_queue.proofs.DueLaws.{pair_slot}
use Rattle.alarm_queue.proofs.waiting.Waiting.add.Goals as goal

pub add_once-requires-clause-slot : goal.add_once-requires-clause-slot
add_once-requires-clause-slot c =
    let its : is_its_line c.self.inside.queue.modules c.args.ob c.args.line ≡ true = subst (λ s. is_its_line s.schedule.modules c.args.ob c.args.line ≡ true) (sym c.self.view_is) c.requires.line in
    let source : c.if-ob-eq70.source ≡ source_by c.args.ob c.args.line = search rules in
    let alarm : c.new-alarm.result ≡ due_alarm c.args.ob c.args.k (source_by c.args.ob c.args.line) c.args.info = cc (c.new-alarm.ensures, source) in
    subst (λ a. has_slot (slots c.self.inside.queue.modules) a ≡ true) (sym alarm) (pair_slot c.self.inside.queue.modules c.args.ob c.args.line c.args.k c.args.info c.requires.block c.if-ob-eq72.false its)
