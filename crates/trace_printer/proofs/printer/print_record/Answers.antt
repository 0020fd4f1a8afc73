use Rattle.trace_printer.proofs.printer.print_record.Goals as goal

pub returns-in-Solo : goal.returns-in-Solo
returns-in-Solo g c = rw c.in-Solo.is c.print_titled.ensures

pub returns-in-Pair : goal.returns-in-Pair
returns-in-Pair g c = rw c.in-Pair.is c.print_titled-in-Pair.ensures
