-- How many blocks have begun on each level.
use Rattle.std.proofs.Common.{◌≡◌, ℕ, List, [], ◌∷◌, length, map, refl, ap}
use Rattle.std.specs.Int.{bytes_high_first}
use Rattle.level_stack.specs.Values.{overwritten}
use Rattle.level_stack.specs.Levels.{FrameState, LevelState, with_last, written, started, block_counts}
use Rattle.level_stack.specs.declared.level.Frame.{Frame}
use Rattle.level_stack.specs.Inside.{frames_in}
use Rattle.level_stack.proofs.Last.{length-with_last}
use Rattle.level_stack.proofs.Frames.{length-frames_in}

-- writing local bytes begins and ends no block
pub written_counts : (levels : List LevelState) (at width value : ℕ) → block_counts (with_last (written at width value) levels) ≡ block_counts levels
written_counts [] at width value = refl
written_counts (level ∷ []) at width value =
    ap (λ n. (level.prio, n) ∷ [])
    (length-with_last (λ (frame : FrameState). record frame { locals = overwritten frame.locals at (bytes_high_first width value) }) level.frames)
written_counts (level ∷ other ∷ levels) at width value = ap (λ l. (level.prio, length level.frames) ∷ l) (written_counts (other ∷ levels) at width value)

-- nor does writing start information
pub started_counts : (levels : List LevelState) (bytes : List ℕ) → block_counts (with_last (started bytes) levels) ≡ block_counts levels
started_counts [] bytes = refl
started_counts (level ∷ []) bytes =
    ap (λ n. (level.prio, n) ∷ [])
    (length-with_last (λ (frame : FrameState). record frame { locals = overwritten frame.locals 0 bytes }) level.frames)
started_counts (level ∷ other ∷ levels) bytes = ap (λ l. (level.prio, length level.frames) ∷ l) (started_counts (other ∷ levels) bytes)

-- as many blocks are seen as are kept
pub as_many : (frames : List Frame) (bytes : List ℕ) → length (frames_in frames bytes) ≡ length frames
as_many frames bytes = length-frames_in frames bytes
