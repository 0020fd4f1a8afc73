use Rattle.std.proofs.Common.{◌<◌, length, arith, refl}
use Rattle.trace_printer.proofs.EntryLaws.{entries_at}
use Rattle.trace_printer.proofs.Sections.{less_left, stops}
use Rattle.trace_printer.proofs.printer.print_entries.Goals as goal

pub returns-in_err-left : goal.returns-in_err-left
returns-in_err-left g c =
    let within : c.loop-k.k < length c.args.entries.now = omega arith in
    stops _ _ _ _ _ _ _ _ _ c.from_residual.ensures.0
    (entries_at c.args.entries.now c.loop-k.k _ c.loop-k.left.now _ within refl) c.loop-k.invariant c.in_err-left.ensures.writes

pub loop-k-preserved : goal.loop-k-preserved
loop-k-preserved g c =
    let within : c.loop-k.k < length c.args.entries.now = omega arith in
    less_left _ _ _ _ _ _ _ _
    (entries_at c.args.entries.now c.loop-k.k _ c.loop-k.left.now _ within c.in_ok-left.ensures.left) c.loop-k.invariant c.in_ok-left.ensures.writes
