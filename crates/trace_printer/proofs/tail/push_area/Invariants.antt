use Rattle.std.proofs.Common.{◌≡◌, ◌+◌, ◌*◌, ◌-◌, ◌≤◌, ◌<◌, ◌++◌, length, drop}
use Rattle.trace_text.specs.Image.{image, cells}
use Rattle.trace_text.specs.Tail.{area_bytes}
use Rattle.trace_printer.proofs.Images.{rest_of}
use Rattle.trace_printer.proofs.tail.push_area.Given as goal

abbrev pub invariant-loop-at : goal.invariant-loop-at
invariant-loop-at g l =
    let bytes = area_bytes (g.T.TailView.tail l.view) l.area in
    (l.line ++ rest_of l.is_first (cells l.at (drop l.at bytes)) ≡ l.fn.line ++ image bytes)
    × (0 < l.at → length bytes ≡ l.size) × (length l.line ≤ length l.fn.line + 7 * l.at + (l.at - 1000))
