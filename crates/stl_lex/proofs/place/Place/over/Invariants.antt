use Rattle.std.proofs.Common.{◌≡◌, ◌≤◌, ◌+◌, drop}
use Rattle.stl_lex.specs.Place.{over}
use Rattle.stl_lex.proofs.place.Place.over.Given as goal

abbrev pub invariant-loop-byte : goal.invariant-loop-byte
invariant-loop-byte l = record {
  same : over l.place (drop l.byte-index l.bytes) ≡ over l.fn.self l.bytes;
  line : l.place.line ≤ l.place.at + 1;
  column : l.place.column ≤ l.place.at + 1;
  at : l.place.at ≡ l.fn.self.at + l.byte-index;
}
