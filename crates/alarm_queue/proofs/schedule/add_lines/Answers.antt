use Rattle.alarm_queue.proofs.CursorLaws.{passing_stop}
use Rattle.alarm_queue.specs.declared.alarm.Source.TheVariants.{Cpu}
use Rattle.alarm_queue.proofs.schedule.add_lines.Goals as goal

pub returns-then-line-k-clause-alarms : goal.returns-then-line-k-clause-alarms
returns-then-line-k-clause-alarms c =
    (passing_stop c.args.lines.now c.args.k c.args.queue.now.alarms c.loop-at.at c.loop-at.queue.alarms (record { ob = 0; priority = 0; due = 0; source = Cpu; info = 0 }) c.loop-at.invariant.passing c.loop-at-test.true c.if-line-k.true).1
