use Rattle.std.proofs.Common.{◌≡◌, ◌≤◌, ◌-◌, ◌*◌}
use Rattle.stl_decl.specs.Repeat.{repeated}
use Rattle.stl_decl.specs.Steps.{end_fault}
use Rattle.stl_decl.specs.Sections.{temporaries_turn, temporaries_at}
use Rattle.stl_decl.proofs.sections.temporaries_at.Given as goal

abbrev pub invariant-loop-turn : goal.invariant-loop-turn
invariant-loop-turn l = record {
  here : repeated (end_fault l.text) (temporaries_turn l.turns l.text) (l.turns - l._turn) (l.layout, l.rest) ≡ temporaries_at l.turns l.text l.tokens;
  end : l.layout.end ≤ l._turn * 549890031616;
}
