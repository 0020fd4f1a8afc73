-- The counters before place k are those of the bytes.
use Rattle.std.proofs.Common.{◌≡◌, ℕ, ◌<◌, List, length, get_or}
use Rattle.counters.specs.State.{CounterState, fresh}
use Rattle.dynamic_pages.specs.Pages.{HoldCounters}
use Rattle.dynamic_pages.proofs.units.counters_of.Given as goal

abbrev pub invariant-loop-k : goal.invariant-loop-k
invariant-loop-k l = (length l.counters ≡ 256) × ((all : List CounterState) → HoldCounters l.bytes all → (j : ℕ) → j < l.k → get_or l.counters j fresh ≡ get_or all j fresh)
