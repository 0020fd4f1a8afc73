use Rattle.std.proofs.Common.{◌≡◌, ◌≤◌, ◌-◌}
use Rattle.stl_decl.specs.Repeat.{repeated}
use Rattle.stl_decl.specs.Steps.{end_fault}
use Rattle.stl_decl.specs.Initials.{initial_turn, initials_at}
use Rattle.stl_decl.proofs.initials.initials_at.Given as goal

abbrev pub invariant-loop-turn : goal.invariant-loop-turn
invariant-loop-turn l = record {
  here : repeated (end_fault l.text) (initial_turn l.text l.variable) (l.turns - l._turn) (record { values = l.values.items; filled = l.filled }, l.rest) ≡ initials_at l.turns l.text l.variable l.tokens;
  filled : l.filled ≤ 8192;
}
