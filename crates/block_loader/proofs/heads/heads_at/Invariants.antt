use Rattle.std.proofs.Common.{◌≡◌, ◌-◌}
use Rattle.stl_decl.specs.Repeat.{repeated}
use Rattle.stl_decl.specs.Steps.{end_fault}
use Rattle.block_loader.specs.Heads.{heads_turn, heads_at}
use Rattle.block_loader.proofs.heads.heads_at.Given as goal

abbrev pub invariant-loop-turn : goal.invariant-loop-turn
invariant-loop-turn l = repeated (end_fault l.text) (heads_turn l.text) (l.turns - l._turn) l.rest ≡ heads_at l.turns l.text l.tokens
