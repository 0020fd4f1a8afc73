use Rattle.std.proofs.Common.{All}
use Rattle.trace_chart.specs.Lanes.{IsLaneOf}
use Rattle.trace_chart.proofs.lanes.lanes_of.Given as goal

abbrev pub invariant-loop-number : goal.invariant-loop-number
invariant-loop-number l = All (IsLaneOf l.entries) l.lanes.items
