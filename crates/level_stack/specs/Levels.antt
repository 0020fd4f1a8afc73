-- What contracts see of the levels of a CPU.
use Rattle.std.specs.Prelude.{ℕ, ◌-◌, ◌==◌, List, [], ◌∷◌, ◌++◌, length, map, take, replicate, sum_by, slice_get, Option, Some, None, if◌then◌else◌}
use Rattle.std.specs.Int.{bytes_high_first}
use Rattle.s7_base.specs.declared.blocks.BlockRef.{BlockRef}
use Rattle.level_stack.specs.Values.{overwritten}

-- a block that has begun, and its local bytes
pub record FrameState : Type 0 where
  pub block : BlockRef
  pub locals : List ℕ

-- a level: its priority, and the blocks that have begun on it, from the first to the one that runs
pub record LevelState : Type 0 where
  pub prio : ℕ
  pub frames : List FrameState

-- the last of a list --

module _ {A : Type 0} where
  abbrev pub last_of : List A → Option A
  last_of xs = slice_get xs (length xs - 1)

  -- the list without its last
  abbrev pub without_last : List A → List A
  without_last xs = take (length xs - 1) xs

  -- the list with its last changed
  abbrev pub with_last : (A → A) → List A → List A
  with_last change [] = []
  with_last change (x ∷ []) = change x ∷ []
  with_last change (x ∷ y ∷ rest) = x ∷ with_last change (y ∷ rest)

-- blocks of a level --

-- how many local bytes the blocks have together
abbrev pub local_count : List FrameState → ℕ
local_count frames = sum_by (λ frame. length frame.locals) frames

abbrev pub locals_in : Option FrameState → List ℕ
locals_in None = []
locals_in (Some frame) = frame.locals

-- the local bytes of the block that runs
abbrev pub top_locals : List FrameState → List ℕ
top_locals frames = locals_in (last_of frames)

-- the level after a block has begun, whose local bytes are 0
abbrev pub entered : BlockRef → ℕ → LevelState → LevelState
entered block temp level =
    record level { frames = level.frames ++ record { block = block; locals = replicate temp 0 } ∷ [] }

-- the level after the block that runs has ended
abbrev pub left : LevelState → LevelState
left level = record level { frames = without_last level.frames }

-- the level after a value was written into local bytes of the block that runs
abbrev pub written : ℕ → ℕ → ℕ → LevelState → LevelState
written at width value level =
    let write : FrameState → FrameState =
    λ frame. record frame { locals = overwritten frame.locals at (bytes_high_first width value) } in
    record level { frames = with_last write level.frames }

-- the level after the start information was written into the first local bytes of the block that runs
abbrev pub started : List ℕ → LevelState → LevelState
started bytes level =
    let write : FrameState → FrameState = λ frame. record frame { locals = overwritten frame.locals 0 bytes } in
    record level { frames = with_last write level.frames }

-- the level that runs --

abbrev pub frames_of : Option LevelState → List FrameState
frames_of None = []
frames_of (Some level) = level.frames

-- its blocks
abbrev pub running_frames : List LevelState → List FrameState
running_frames levels = frames_of (last_of levels)

-- the local bytes of the block that runs
abbrev pub running_locals : List LevelState → List ℕ
running_locals levels = top_locals (running_frames levels)

-- without the level that runs, where no block has begun on it
abbrev pub without_empty : List LevelState → List LevelState
without_empty levels = if length (running_frames levels) == 0 then without_last levels else levels

-- the block that runs has ended, and where it was the last one of its level, the level too
abbrev pub ended : List LevelState → List LevelState
ended levels = without_empty (with_last left levels)

-- of each level its priority, and how many blocks have begun on it
abbrev pub block_counts : List LevelState → List (ℕ × ℕ)
block_counts levels = map (λ (level : LevelState). (level.prio, length level.frames)) levels

-- its priority
abbrev pub prio_of : Option LevelState → Option ℕ
prio_of None = None
prio_of (Some level) = Some level.prio

abbrev pub running_prio : List LevelState → Option ℕ
running_prio levels = prio_of (last_of levels)
