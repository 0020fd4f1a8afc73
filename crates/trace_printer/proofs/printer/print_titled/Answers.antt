use Rattle.trace_printer.proofs.Sections.{goes_on, halts}
use Rattle.trace_printer.proofs.printer.print_titled.Goals as goal

pub returns-in_err-write_line : goal.returns-in_err-write_line
returns-in_err-write_line g c = halts _ c.from_residual.ensures.0 c.put_text.ensures.text c.in_err-write_line.ensures

pub returns : goal.returns
returns g c = goes_on c.put_text.ensures.text c.in_ok-write_line.ensures c.print_entries.ensures
