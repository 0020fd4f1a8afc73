use Rattle.std.proofs.Common.{drop}
use Rattle.pair_io.specs.Writes.{state_of}
use Rattle.trace_text.specs.Text.{entries_text}
use Rattle.trace_printer.proofs.Sections.{IsLeft}
use Rattle.trace_printer.proofs.printer.print_entries.Given as goal

abbrev pub invariant-loop-k : goal.invariant-loop-k
invariant-loop-k g l =
    IsLeft (state_of (g.K.Sink.written l.fn.sink) (g.K.Sink.faults l.fn.sink) (g.K.Sink.takes l.fn.sink))
    (state_of (g.K.Sink.written l.sink) (g.K.Sink.faults l.sink) (g.K.Sink.takes l.sink))
    (entries_text 0 l.entries l.shown) (entries_text l.k (drop l.k l.entries) l.left)
