use Rattle.std.proofs.Common.{◌≡◌, ◌++◌, drop}
use Rattle.trace_chart.specs.Lanes.{changes_from, changes_of}
use Rattle.trace_chart.proofs.lanes.changes.Given as goal

abbrev pub invariant-loop-k : goal.invariant-loop-k
invariant-loop-k l = l.changes.items ++ changes_from l.signal l.k l.value (drop l.k l.entries) ≡ changes_of l.signal l.entries
