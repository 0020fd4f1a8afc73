use Rattle.std.proofs.Common.{◌≡◌, rules, slice_get, Some}
use Rattle.trace_printer.proofs.Notes.{lines_at}
use Rattle.trace_printer.proofs.Sections.{less_left, stops}
use Rattle.trace_printer.proofs.tail.print_notes.Goals as goal

pub returns-in_err-write_line : goal.returns-in_err-write_line
returns-in_err-write_line g c =
    let notes = (g.T.TailView.tail c.args.view.now).notes in
    let here : slice_get notes c.loop-k.k ≡ Some (c.in-Some.moment, c.in-Some.code) = search rules in
    stops _ _ _ _ _ _ _ _ _ c.from_residual.ensures.0 (lines_at notes c.loop-k.k _ _ here c.put_note.ensures) c.loop-k.invariant.1 c.in_err-write_line.ensures

pub loop-k-preserved : goal.loop-k-preserved
loop-k-preserved g c =
    let notes = (g.T.TailView.tail c.args.view.now).notes in
    let here : slice_get notes c.loop-k.k ≡ Some (c.in-Some.moment, c.in-Some.code) = search rules in
    (search rules, less_left _ _ _ _ _ _ _ _ (lines_at notes c.loop-k.k _ _ here c.put_note.ensures) c.loop-k.invariant.1 c.in_ok-write_line.ensures)
