use Rattle.std.proofs.Common.{◌≡◌, ◌+◌, drop, ◌∷◌, Some, slice_get, sym, arith, ap, length}
use Rattle.std.proofs.lemmas.Grind.{common_steps}
use Rattle.trace_text.specs.Tail.{area_bytes}
use Rattle.trace_printer.proofs.Lists.{drop_at}
use Rattle.trace_printer.proofs.tail.push_area.Goals as goal
use Rattle.trace_printer.proofs.tail.push_area.Goals.{then-byte-ne0, else-byte-ne0}

pub loop-at-preserved : goal.loop-at-preserved
loop-at-preserved g c =
    let bytes = area_bytes (g.T.TailView.tail c.args.view.now) c.args.area in
    let here : slice_get bytes c.loop-at.at ≡ Some c.in-Some.byte = sym (c.in-Some.ensures.byte c.requires.shown) in
    let more : drop c.loop-at.at bytes ≡ c.in-Some.byte ∷ drop (c.loop-at.at + 1) bytes = drop_at bytes c.loop-at.at c.in-Some.byte here in
    let before = rw more at c.loop-at.invariant.0 in
    let size : length bytes ≡ c.args.size = c.in-Some.ensures.size c.args.size c.requires.size in
    elim c.if-byte-ne0.branch [
      | then-byte-ne0 w ↦ (
        grind (arith, common_steps, before),
        λ _. size,
        grind (arith, w.from.ensures, ap length w.line-is, w.push_cell.ensures.length, w.push_cell.ensures.short),
      )
      | else-byte-ne0 w ↦ (grind (arith, common_steps, before), λ _. size, omega (arith, ap length w.line-is))
    ]
