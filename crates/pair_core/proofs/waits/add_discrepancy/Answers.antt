-- The alarm of the module in the place, by its line and its first byte.
use Rattle.std.proofs.Common.{◌∙◌, ap}
use Rattle.alarm_queue.specs.Waiting as alarms
use Rattle.pair_core.proofs.Discrepancies.{line_in, is_added, is_left}
use Rattle.pair_core.proofs.waits.add_discrepancy.Goals as goal

pub add-requires-clause-line : goal.add-requires-clause-line
add-requires-clause-line c =
    line_in c.args.script.now.modules c.modules.result.now c.args.waiting.now.schedule.modules c.args.place c.modules.ensures.list c.requires.lines c.requires.there

pub returns-then-is_due-clause-waiting : goal.returns-then-is_due-clause-waiting
returns-then-is_due-clause-waiting c states h =
    is_added c.args.script.now.modules c.modules.result.now c.args.place c.args.k c.from.result states c.is_due.result c.args.waiting.now.waiting c.add.new.self.waiting
    c.modules.ensures.list c.from.ensures c.if-is_due.true (ap (λ (s : alarms.State). s.waiting) c.add.ensures) (c.is_due.ensures states h)

pub returns-else-is_due-clause-waiting : goal.returns-else-is_due-clause-waiting
returns-else-is_due-clause-waiting c states h =
    is_left c.args.script.now.modules c.args.place c.args.k states c.is_due.result c.args.waiting.now.waiting c.if-is_due.false (c.is_due.ensures states h)
