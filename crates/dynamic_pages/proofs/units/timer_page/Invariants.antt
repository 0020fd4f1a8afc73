-- The bytes before place i are those of the page.
use Rattle.std.proofs.Common.{◌≡◌, ℕ, ◌+◌, ◌*◌, ◌<◌, length, get_or}
use Rattle.dynamic_pages.specs.Pages.{timer_bytes}
use Rattle.dynamic_pages.proofs.units.timer_page.Given as goal

abbrev pub invariant-loop-i : goal.invariant-loop-i
invariant-loop-i l = (length l.page ≡ 256) × ((j : ℕ) → j < l.i → get_or l.page j 0 ≡ get_or (timer_bytes l.timers) (256 * l.k + j) 0)
