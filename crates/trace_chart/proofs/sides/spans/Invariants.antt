use Rattle.std.proofs.Common.{◌≡◌, ◌++◌, drop}
use Rattle.trace_chart.specs.Sides.{spans_from, spans_of}
use Rattle.trace_chart.proofs.sides.spans.Given as goal

abbrev pub invariant-loop-k : goal.invariant-loop-k
invariant-loop-k l = l.spans.items ++ spans_from l.k l.roles (drop l.k l.entries) ≡ spans_of l.fn.mode l.entries
