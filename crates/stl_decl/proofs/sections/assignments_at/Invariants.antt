use Rattle.std.proofs.Common.{◌≡◌, ◌-◌}
use Rattle.stl_decl.specs.Repeat.{repeated}
use Rattle.stl_decl.specs.Steps.{end_fault}
use Rattle.stl_decl.specs.Sections.{assignments_turn, assignments_at}
use Rattle.stl_decl.proofs.sections.assignments_at.Given as goal

abbrev pub invariant-loop-turn : goal.invariant-loop-turn
invariant-loop-turn l =
    repeated (end_fault l.text) (assignments_turn l.text) (l.turns - l._turn) (l.layout, l.rest) ≡ assignments_at l.turns l.text l.fn.layout l.tokens
