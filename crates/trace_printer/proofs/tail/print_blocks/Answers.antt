use Rattle.std.proofs.Common.{◌<◌, ◌≤◌, length, arith}
use Rattle.trace_printer.proofs.Numbered.{blocks_at, no_blocks_left}
use Rattle.trace_printer.proofs.Sections.{all_left, less_left, stops, nothing_left}
use Rattle.trace_printer.proofs.tail.print_blocks.Goals as goal

pub loop-number-init : goal.loop-number-init
loop-number-init g c = record { left = all_left _ _; count = λ some. absurd (omega arith) }

pub returns-in_err-print_block : goal.returns-in_err-print_block
returns-in_err-print_block g c =
    let all = (g.T.TailView.tail c.args.view.now).blocks in
    stops _ _ _ _ _ _ _ _ _ c.from_residual.ensures.0 (blocks_at all c.loop-number.number c.loop-number.number) c.loop-number.invariant.left c.in_err-print_block.ensures.writes

pub loop-number-preserved : goal.loop-number-preserved
loop-number-preserved g c =
    let all = (g.T.TailView.tail c.args.view.now).blocks in
    record {
      left = less_left _ _ _ _ _ _ _ _ (blocks_at all c.loop-number.number c.loop-number.number) c.loop-number.invariant.left c.in_ok-print_block.ensures.writes;
      count = λ some. c.in_ok-print_block.ensures.count;
    }

pub returns : goal.returns
returns g c =
    let all = (g.T.TailView.tail c.args.view.now).blocks in
    let some : 0 < c.loop-number.number = omega arith in
    let few : length all ≤ 256 = c.loop-number.invariant.count some in
    let past : length all ≤ c.loop-number.number = omega arith in
    nothing_left _ _ _ _ _ (no_blocks_left all c.loop-number.number past) c.loop-number.invariant.left
