use Rattle.trace_printer.proofs.Sections.{goes_on, halts, closes}
use Rattle.trace_printer.proofs.tail.print_areas.Goals as goal

pub returns-in_err-write_line : goal.returns-in_err-write_line
returns-in_err-write_line g c = halts _ c.from_residual.ensures.0 c.put_area.ensures c.in_err-write_line.ensures

pub returns-in_err-write_line-2 : goal.returns-in_err-write_line-2
returns-in_err-write_line-2 g c =
    goes_on c.put_area.ensures c.in_ok-write_line.ensures
    (halts _ c.from_residual-in_err-write_line-2.ensures.0 c.put_area-2.ensures c.in_err-write_line-2.ensures)

pub returns : goal.returns
returns g c =
    goes_on c.put_area.ensures c.in_ok-write_line.ensures
    (goes_on c.put_area-2.ensures c.in_ok-write_line-2.ensures (closes c.put_area-3.ensures c.write_line-3.ensures))
