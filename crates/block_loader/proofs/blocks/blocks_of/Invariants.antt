use Rattle.std.proofs.Common.{◌≡◌, ◌≤◌, ◌-◌, ◌+◌, length}
use Rattle.std.specs.Prelude.{All}
use Rattle.stl_decl.specs.Steps.{end_fault}
use Rattle.stl_decl.specs.Faults.{told}
use Rattle.stl_decl.specs.Repeat.{repeated}
use Rattle.block_loader.specs.Blocks.{blocks_turn, blocks_of}
use Rattle.block_loader.specs.Sound.{IsSoundBlock}
use Rattle.block_loader.proofs.blocks.blocks_of.Given as goal

abbrev pub invariant-loop-turn : goal.invariant-loop-turn
invariant-loop-turn l = record {
  here : repeated (told (end_fault l.text)) (blocks_turn l.text l.tokens) (length l.tokens + 1 - l._turn) (l.blocks.items, l.at) ≡ blocks_of l.text l.tokens;
  at : l.at ≤ length l.tokens;
  sound : All IsSoundBlock l.blocks.items;
}
