use Rattle.std.proofs.Common.{refl}
use Rattle.trace_printer.proofs.Sections.{goes_on, halts, closes}
use Rattle.trace_printer.proofs.printer.print_all.Goals as goal

pub returns-in_err-print_record : goal.returns-in_err-print_record
returns-in_err-print_record g c = halts _ c.from_residual.ensures.0 refl c.in_err-print_record.ensures

pub returns-in_err-print_ended : goal.returns-in_err-print_ended
returns-in_err-print_ended g c =
    goes_on refl c.in_ok-print_record.ensures
    (halts _ c.from_residual-in_err-print_ended.ensures.0 refl c.in_err-print_ended.ensures)

pub returns : goal.returns
returns g c =
    goes_on refl c.in_ok-print_record.ensures
    (goes_on refl c.in_ok-print_ended.ensures (closes c.put_last.ensures c.write_line.ensures))
