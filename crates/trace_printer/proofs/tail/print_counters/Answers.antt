use Rattle.std.proofs.Common.{◌<◌, ◌≤◌, length, arith}
use Rattle.trace_printer.proofs.Numbered.{counters_at, no_counters_left}
use Rattle.trace_printer.proofs.Sections.{all_left, less_left, stops, nothing_left}
use Rattle.trace_printer.proofs.tail.print_counters.Goals as goal

pub loop-number-init : goal.loop-number-init
loop-number-init g c = record { left = all_left _ _; count = λ some. absurd (omega arith) }

pub returns-in_err-print_counter : goal.returns-in_err-print_counter
returns-in_err-print_counter g c =
    let all = (g.T.TailView.tail c.args.view.now).counters in
    stops _ _ _ _ _ _ _ _ _ c.from_residual.ensures.0 (counters_at all c.loop-number.number c.loop-number.number) c.loop-number.invariant.left c.in_err-print_counter.ensures.writes

pub loop-number-preserved : goal.loop-number-preserved
loop-number-preserved g c =
    let all = (g.T.TailView.tail c.args.view.now).counters in
    record {
      left = less_left _ _ _ _ _ _ _ _ (counters_at all c.loop-number.number c.loop-number.number) c.loop-number.invariant.left c.in_ok-print_counter.ensures.writes;
      count = λ some. c.in_ok-print_counter.ensures.count;
    }

pub returns : goal.returns
returns g c =
    let all = (g.T.TailView.tail c.args.view.now).counters in
    let some : 0 < c.loop-number.number = omega arith in
    let few : length all ≤ 256 = c.loop-number.invariant.count some in
    let past : length all ≤ c.loop-number.number = omega arith in
    nothing_left _ _ _ _ _ (no_counters_left all c.loop-number.number past) c.loop-number.invariant.left
