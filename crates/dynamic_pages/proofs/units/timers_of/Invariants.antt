-- The timers before place k are those of the bytes.
use Rattle.std.proofs.Common.{◌≡◌, ℕ, ◌<◌, List, length, get_or}
use Rattle.timers.specs.State.{TimerState, fresh}
use Rattle.dynamic_pages.specs.Pages.{HoldTimers}
use Rattle.dynamic_pages.proofs.units.timers_of.Given as goal

abbrev pub invariant-loop-k : goal.invariant-loop-k
invariant-loop-k l = (length l.timers ≡ 256) × ((all : List TimerState) → HoldTimers l.bytes all → (j : ℕ) → j < l.k → get_or l.timers j fresh ≡ get_or all j fresh)
