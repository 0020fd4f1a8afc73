use Rattle.std.proofs.Common.{refl}
use Rattle.trace_printer.proofs.Sections.{goes_on, halts, closes}
use Rattle.trace_printer.proofs.tail.print_tail.Goals as goal

pub returns-in_err-write_line : goal.returns-in_err-write_line
returns-in_err-write_line g c = halts _ c.from_residual.ensures.0 c.put_count.ensures c.in_err-write_line.ensures

pub returns-in_err-print_notes : goal.returns-in_err-print_notes
returns-in_err-print_notes g c =
    goes_on c.put_count.ensures c.in_ok-write_line.ensures
    (halts _ c.from_residual-in_err-print_notes.ensures.0 refl c.in_err-print_notes.ensures)

pub returns-in_err-print_areas : goal.returns-in_err-print_areas
returns-in_err-print_areas g c =
    goes_on c.put_count.ensures c.in_ok-write_line.ensures
    (goes_on refl c.in_ok-print_notes.ensures
    (halts _ c.from_residual-in_err-print_areas.ensures.0 refl c.in_err-print_areas.ensures))

pub returns-in_err-print_blocks : goal.returns-in_err-print_blocks
returns-in_err-print_blocks g c =
    goes_on c.put_count.ensures c.in_ok-write_line.ensures
    (goes_on refl c.in_ok-print_notes.ensures
    (goes_on refl c.in_ok-print_areas.ensures
    (halts _ c.from_residual-in_err-print_blocks.ensures.0 refl c.in_err-print_blocks.ensures)))

pub returns : goal.returns
returns g c =
    goes_on c.put_count.ensures c.in_ok-write_line.ensures
    (goes_on refl c.in_ok-print_notes.ensures
    (goes_on refl c.in_ok-print_areas.ensures
    (goes_on refl c.in_ok-print_blocks.ensures (closes refl c.print_counters.ensures))))
