use Rattle.std.proofs.Common.{◌≡◌, ◌<◌, ◌++◌, length, ℕ, List}
use Rattle.trace_reader.specs.declared.trace.Entry.{Entry}
use Rattle.trace_reader.specs.Text.{entries_text}
use Rattle.trace_reader.specs.Ranges.{Each, FitsEntry, ClosesEntries, EndShowings}
use Rattle.trace_reader.proofs.GoesOn.{EntriesLeft}
use Rattle.trace_reader.proofs.reading.entries_from.Given as goal

abbrev pub invariant-entries : goal.invariant-entries
invariant-entries l = record {
  whole : l.text ≡ entries_text 0 l.entries.items ++ l.rest;
  fits : Each FitsEntry l.entries.items;
  few : length l.entries.items < 4294967296;
  shown : EndShowings l.entries.items l.rest;
  left : (all : List Entry) (end : List ℕ) → length all < 4294967296 → Each FitsEntry all → ClosesEntries end → l.text ≡ entries_text 0 all ++ end → EntriesLeft all l.entries.items l.rest end;
}

abbrev pub decreases-entries : goal.decreases-entries
decreases-entries l = length l.rest
