use Rattle.std.proofs.Common.{◌≡◌, ◌+◌, ◌*◌, ◌-◌, ◌≤◌, ◌++◌, length, drop}
use Rattle.trace_text.specs.Image.{image, cells}
use Rattle.trace_printer.proofs.Images.{rest_of}
use Rattle.trace_printer.proofs.line.Line.push_image.Given as goal

abbrev pub invariant-loop-at : goal.invariant-loop-at
invariant-loop-at l =
    (l.self ++ rest_of l.is_first (cells l.at (drop l.at l.bytes)) ≡ l.fn.self ++ image l.bytes)
    × (length l.self ≤ length l.fn.self + 7 * l.at + (l.at - 1000))
