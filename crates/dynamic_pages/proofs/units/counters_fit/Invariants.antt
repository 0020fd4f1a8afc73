-- Those before this one fit.
use Rattle.std.proofs.Common.{take, All}
use Rattle.dynamic_pages.specs.Pages.{IsStoredCounter}
use Rattle.dynamic_pages.proofs.units.counters_fit.Given as goal

abbrev pub invariant-loop-counter : goal.invariant-loop-counter
invariant-loop-counter l = All IsStoredCounter (take l.counter-index l.counters)
