use Rattle.std.proofs.Common.{◌≡◌, ◌++◌, length, ℕ, List, None}
use Rattle.std.specs.Prelude.{codes}
use Rattle.std.specs.List.{flat_map}
use Rattle.trace_reader.specs.declared.trace.Counter.{Counter}
use Rattle.trace_reader.specs.Fields.{after}
use Rattle.trace_reader.specs.Text.{counter_line}
use Rattle.trace_reader.specs.Ranges.{Each, FitsCounter}
use Rattle.trace_reader.proofs.GoesOn.{Left}
use Rattle.trace_reader.proofs.blocks.counters_from.Given as goal

abbrev pub invariant-counters : goal.invariant-counters
invariant-counters l = record {
  whole : l.text ≡ flat_map counter_line l.counters.items ++ l.rest;
  fits : Each FitsCounter l.counters.items;
  left : (all : List Counter) (end : List ℕ) → Each FitsCounter all → after (codes "C ") end ≡ None → l.text ≡ flat_map counter_line all ++ end → Left counter_line FitsCounter all l.counters.items l.rest end;
}

abbrev pub decreases-counters : goal.decreases-counters
decreases-counters l = length l.rest
