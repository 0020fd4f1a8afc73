use Rattle.trace_reader.proofs.SectionStops.{inputs_stop, outputs_stop, memory_stop}
use Rattle.trace_reader.proofs.lines.areas_at.Goals as goal

pub returns-in-None-clause-stopped : goal.returns-in-None-clause-stopped
returns-in-None-clause-stopped c = inputs_stop c.args.text.now c.in-None.ensures.exact

pub returns-in-None-process_line_at-clause-stopped : goal.returns-in-None-process_line_at-clause-stopped
returns-in-None-process_line_at-clause-stopped c =
    outputs_stop c.args.text.now c.in-Some.found.1.now c.in-Some.found.0 c.in-Some.ensures.written c.in-Some.ensures.fits c.in-None-process_line_at.ensures.exact

pub returns-in-None-memory_line_at-clause-stopped : goal.returns-in-None-memory_line_at-clause-stopped
returns-in-None-memory_line_at-clause-stopped c =
    memory_stop c.args.text.now c.in-Some.found.1.now c.in-Some-process_line_at.found.1.now c.in-Some.found.0 c.in-Some-process_line_at.found.0
    c.in-Some.ensures.written c.in-Some-process_line_at.ensures.written c.in-Some.ensures.fits c.in-Some-process_line_at.ensures.fits c.in-None-memory_line_at.ensures.exact
