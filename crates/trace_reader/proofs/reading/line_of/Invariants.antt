use Rattle.std.proofs.Common.{◌≡◌, ◌≤◌, ◌+◌, drop}
use Rattle.trace_reader.specs.Refusal.{lines_after}
use Rattle.trace_reader.proofs.reading.line_of.Given as goal

abbrev pub invariant-loop-byte : goal.invariant-loop-byte
invariant-loop-byte l = record {
  same : lines_after l.number (drop l.byte-index l.front) ≡ lines_after 1 l.front;
  few : l.number ≤ l.byte-index + 1;
}
