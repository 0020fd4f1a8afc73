use Rattle.std.proofs.Common.{◌≡◌, ◌≤◌, ◌-◌, ◌+◌, ◌*◌}
use Rattle.stl_decl.specs.Repeat.{repeated}
use Rattle.stl_decl.specs.Steps.{end_fault}
use Rattle.stl_decl.specs.Sections.{section_turn, section_at}
use Rattle.stl_decl.proofs.sections.section_at.Given as goal

abbrev pub invariant-loop-turn : goal.invariant-loop-turn
invariant-loop-turn l = record {
  here : repeated (end_fault l.text) (section_turn l.turns l.text l.kind) (l.turns - l._turn) (l.layout, l.rest) ≡ section_at l.turns l.text l.kind l.fn.layout l.tokens;
  end : l.layout.end ≤ l.fn.layout.end + l._turn * 524352;
}
