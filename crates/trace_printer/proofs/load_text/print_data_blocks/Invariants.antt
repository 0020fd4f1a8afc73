use Rattle.std.proofs.Common.{drop}
use Rattle.std.specs.List.{flat_map}
use Rattle.pair_io.specs.Writes.{state_of}
use Rattle.trace_printer.specs.LoadText.{data_line}
use Rattle.trace_printer.proofs.Sections.{IsLeft}
use Rattle.trace_printer.proofs.load_text.print_data_blocks.Given as goal

abbrev pub invariant-loop-block : goal.invariant-loop-block
invariant-loop-block g l =
    IsLeft (state_of (g.K.Sink.written l.fn.sink) (g.K.Sink.faults l.fn.sink) (g.K.Sink.takes l.fn.sink))
    (state_of (g.K.Sink.written l.sink) (g.K.Sink.faults l.sink) (g.K.Sink.takes l.sink))
    (flat_map data_line l.data_blocks) (flat_map data_line (drop l.block-index l.data_blocks))
