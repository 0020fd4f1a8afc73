use Rattle.std.proofs.Common.{◌++◌}
use Rattle.load_maker.specs.Script.{input_lines, alarm_lines, loss_lines}
use Rattle.load_maker.proofs.Texts.{both_added}
use Rattle.load_maker.proofs.script.push_moment.Goals as goal

pub returns : goal.returns
returns c =
    let alarm = alarm_lines c.args.m in
    let loss = loss_lines c.args.n c.args.m in
    both_added _ _ _ (input_lines c.args.m) (alarm ++ loss) c.in_ok-push_input.ensures
    (both_added _ _ _ alarm loss c.in_ok-push_alarm.ensures c.in_ok-push_loss.ensures)
