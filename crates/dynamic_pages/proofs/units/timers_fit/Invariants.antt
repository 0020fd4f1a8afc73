-- Those before this one fit.
use Rattle.std.proofs.Common.{take, All}
use Rattle.dynamic_pages.specs.Pages.{IsStoredTimer}
use Rattle.dynamic_pages.proofs.units.timers_fit.Given as goal

abbrev pub invariant-loop-timer : goal.invariant-loop-timer
invariant-loop-timer l = All IsStoredTimer (take l.timer-index l.timers)
