use Rattle.std.proofs.Common.{◌≡◌, length, drop}
use Rattle.pair_io.specs.Writes.{state_of}
use Rattle.trace_text.specs.Tail.{note_lines}
use Rattle.trace_printer.proofs.Sections.{IsLeft}
use Rattle.trace_printer.proofs.tail.print_notes.Given as goal

abbrev pub invariant-loop-k : goal.invariant-loop-k
invariant-loop-k g l =
    let notes = (g.T.TailView.tail l.view).notes in
    (l.k-end ≡ length notes)
    × IsLeft (state_of (g.K.Sink.written l.fn.sink) (g.K.Sink.faults l.fn.sink) (g.K.Sink.takes l.fn.sink))
    (state_of (g.K.Sink.written l.sink) (g.K.Sink.faults l.sink) (g.K.Sink.takes l.sink))
    (note_lines notes) (note_lines (drop l.k notes))
