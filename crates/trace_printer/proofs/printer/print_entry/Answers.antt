use Rattle.std.proofs.Common.{List, ℕ, ap, codes, refl}
use Rattle.s7_events.specs.declared.entry.Side.{Side}
use Rattle.trace_text.specs.Text.{showing_line}
use Rattle.trace_printer.proofs.Sections.{goes_on, halts, closes}
use Rattle.trace_printer.proofs.printer.print_entry.Goals as goal

pub returns-in_err-write_line-clause-writes : goal.returns-in_err-write_line-clause-writes
returns-in_err-write_line-clause-writes g c = halts _ c.from_residual.ensures.0 c.put_entry.ensures c.in_err-write_line.ensures

pub returns-in_err-left-clause-writes : goal.returns-in_err-left-clause-writes
returns-in_err-left-clause-writes g c =
    goes_on c.put_entry.ensures c.in_ok-write_line.ensures
    (halts _ c.from_residual-in_err-left.ensures.0 refl c.in_err-left.ensures.writes)

pub returns-clause-writes : goal.returns-clause-writes
returns-clause-writes g c =
    let again = ap (λ (shown : List (ℕ × Side)). showing_line (codes "AGAIN ") c.args.k shown) c.in_ok-left.ensures.left in
    goes_on c.put_entry.ensures c.in_ok-write_line.ensures
    (goes_on refl c.in_ok-left.ensures.writes (closes again c.print_showing-2.ensures.writes))
