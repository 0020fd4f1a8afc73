use Rattle.std.proofs.Common.{◌≡◌, ◌++◌, drop}
use Rattle.std.specs.List.{flat_map}
use Rattle.trace_chart.specs.Chart.{edge_text}
use Rattle.trace_chart.proofs.svg.add_edges.Given as goal

abbrev pub invariant-loop-change : goal.invariant-loop-change
invariant-loop-change l =
    l.page.bytes.items ++ flat_map (edge_text l.scale.end l.high l.low) (drop l.change-index l.changes)
    ≡ l.fn.page.bytes.items ++ flat_map (edge_text l.fn.scale.end l.fn.high l.fn.low) l.fn.changes
