use Rattle.std.proofs.Common.{◌≡◌, ◌++◌, drop}
use Rattle.trace_chart.specs.Sides.{shows_from, shows_of}
use Rattle.trace_chart.proofs.sides.shows.Given as goal

abbrev pub invariant-loop-k : goal.invariant-loop-k
invariant-loop-k l = l.moments.items ++ shows_from l.side l.k (drop l.k l.entries) ≡ shows_of l.side l.entries
