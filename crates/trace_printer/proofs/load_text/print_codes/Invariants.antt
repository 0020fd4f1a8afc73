use Rattle.std.proofs.Common.{drop}
use Rattle.std.specs.List.{flat_map}
use Rattle.pair_io.specs.Writes.{state_of}
use Rattle.trace_printer.specs.LoadText.{code_line}
use Rattle.trace_printer.proofs.Sections.{IsLeft}
use Rattle.trace_printer.proofs.load_text.print_codes.Given as goal

abbrev pub invariant-loop-code : goal.invariant-loop-code
invariant-loop-code g l =
    IsLeft (state_of (g.K.Sink.written l.fn.sink) (g.K.Sink.faults l.fn.sink) (g.K.Sink.takes l.fn.sink))
    (state_of (g.K.Sink.written l.sink) (g.K.Sink.faults l.sink) (g.K.Sink.takes l.sink))
    (flat_map code_line l.codes) (flat_map code_line (drop l.code-index l.codes))
