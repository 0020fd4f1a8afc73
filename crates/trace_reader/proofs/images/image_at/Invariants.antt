use Rattle.std.proofs.Common.{◌≡◌, true, ◌++◌, ◌-◌, take, length}
use Rattle.trace_reader.specs.Images.{cells_text, is_dark, cells_from}
use Rattle.trace_reader.specs.Ranges.{AreBytes}
use Rattle.trace_reader.proofs.Cells.{with_bytes}
use Rattle.trace_reader.proofs.images.image_at.Given as goal

abbrev pub invariant-loop-at : goal.invariant-loop-at
invariant-loop-at l = record {
  whole : l.text ≡ cells_text true 0 (take l.at l.bytes) ++ l.rest;
  first : l.is_first ≡ is_dark (take l.at l.bytes);
  fits : AreBytes (take l.at l.bytes);
  read : with_bytes (take l.at l.bytes) (cells_from l.is_first l.at (length l.bytes - l.at) l.rest) ≡ cells_from true 0 (length l.bytes) l.text;
}
