-- How levels and blocks begin and end, as the statements see it.
use Rattle.std.specs.Prelude.{ℕ, ◌+◌, ◌==◌, nat_lt, List, [], ◌∷◌, ◌++◌, length, if◌then◌else◌, Result, Ok, Err, unwrap_or}
use Rattle.s7_base.specs.declared.blocks.BlockRef.{BlockRef}
use Rattle.level_stack.specs.declared.level.LevelFault.{LevelFault}
use Rattle.level_stack.specs.declared.level.LevelFault.TheVariants.{DepthReached, LocalFull}
use Rattle.level_stack.specs.Levels as levels
use Rattle.statement_effects.specs.State.{Memory}

-- the priority of the level that runs, and outside every level that of OB1
abbrev pub priority_in : Memory → ℕ
priority_in memory = unwrap_or (levels.running_prio memory.levels) 1

-- a level of a priority begins, with no block yet
abbrev pub with_level : Memory → ℕ → Memory
with_level memory priority = record memory { levels = memory.levels ++ record { prio = priority; frames = [] } ∷ [] }

-- a block begins on the level that runs, with some bytes of local data, all 0
abbrev pub with_block : Memory → BlockRef → ℕ → Memory
with_block memory block bytes = record memory { levels = levels.with_last (levels.entered block bytes) memory.levels }

-- the same, where 24 blocks at most have begun on the level, with 256 local bytes together
abbrev pub entered : Memory → BlockRef → ℕ → Result Memory LevelFault
entered memory block bytes =
    if length (levels.running_frames memory.levels) == 24 then Err DepthReached
    else if nat_lt 256 (levels.local_count (levels.running_frames memory.levels) + bytes) then Err LocalFull
    else Ok (with_block memory block bytes)

-- the start information of an organisation block stands in the first bytes of local data of the block that runs
abbrev pub with_start : Memory → List ℕ → Memory
with_start memory bytes = record memory { levels = levels.with_last (levels.started bytes) memory.levels }

-- the block that runs has ended, and where it was the last one of its level, the level too
abbrev pub without_block : Memory → Memory
without_block memory = record memory { levels = levels.ended memory.levels }
