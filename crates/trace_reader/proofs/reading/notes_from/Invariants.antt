use Rattle.std.proofs.Common.{◌≡◌, ◌++◌, length, ℕ, List}
use Rattle.std.specs.List.{flat_map}
use Rattle.trace_reader.specs.declared.trace.Note.{Note}
use Rattle.trace_reader.specs.Text.{note_line}
use Rattle.trace_reader.specs.Ranges.{Each, FitsNote}
use Rattle.trace_reader.proofs.GoesOn.{Left}
use Rattle.trace_reader.proofs.reading.notes_from.Given as goal

abbrev pub invariant-loop-turn : goal.invariant-loop-turn
invariant-loop-turn l = record {
  whole : l.text ≡ flat_map note_line l.notes.items ++ l.rest;
  count : length l.notes.items ≡ l._turn;
  fits : Each FitsNote l.notes.items;
  left : (all : List Note) (end : List ℕ) → length all ≡ l.count → Each FitsNote all → l.text ≡ flat_map note_line all ++ end → Left note_line FitsNote all l.notes.items l.rest end;
}
