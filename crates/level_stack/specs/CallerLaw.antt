-- Local data of caller and callee are apart.
use Rattle.std.specs.Prelude.{◌≡◌, ℕ, List, [], ◌∷◌}
use Rattle.s7_base.specs.declared.blocks.BlockRef.{BlockRef}
use Rattle.level_stack.specs.Levels.{LevelState, with_last, entered, left, written}

-- a value that is written into local bytes: its place, the number of its bytes, and itself
pub record Write : Type 0 where
  pub at : ℕ
  pub width : ℕ
  pub value : ℕ

-- the levels after the block that runs has written these
abbrev pub after_writes : List Write → List LevelState → List LevelState
after_writes [] levels = levels
after_writes (w ∷ writes) levels = after_writes writes (with_last (written w.at w.width w.value) levels)

-- A block begins, writes values into its local bytes, and ends: the levels are as before.
abbrev pub CallerIsKept : Type 0
CallerIsKept =
    (levels : List LevelState) (block : BlockRef) (temp : ℕ) (writes : List Write)
    → with_last left (after_writes writes (with_last (entered block temp) levels)) ≡ levels
