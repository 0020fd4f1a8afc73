use Rattle.std.proofs.Common.{◌<◌, ◌≤◌, length, drop}
use Rattle.pair_io.specs.Writes.{state_of}
use Rattle.trace_text.specs.Tail.{block_lines}
use Rattle.trace_printer.proofs.Sections.{IsLeft}
use Rattle.trace_printer.proofs.tail.print_blocks.Given as goal

abbrev pub invariant-loop-number : goal.invariant-loop-number
invariant-loop-number g l =
    let all = (g.T.TailView.tail l.view).blocks in
    record {
      left : IsLeft (state_of (g.K.Sink.written l.fn.sink) (g.K.Sink.faults l.fn.sink) (g.K.Sink.takes l.fn.sink))
          (state_of (g.K.Sink.written l.sink) (g.K.Sink.faults l.sink) (g.K.Sink.takes l.sink))
          (block_lines 0 all) (block_lines l.number (drop l.number all));
      count : 0 < l.number → length all ≤ 256;
    }
