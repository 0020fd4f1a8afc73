-- A block that runs does so on a level.
use Rattle.std.proofs.Common.{◌≡◌, ℕ, ◌+◌, ◌<◌, ◌≤◌, List, [], ◌∷◌, length, replicate, inl, inr, refl, ap, ◌∙◌, arith}
use Rattle.std.proofs.lemmas.List.{length-replicate}
use Rattle.s7_base.specs.declared.blocks.BlockRef.{BlockRef}
use Rattle.level_stack.specs.Values.{IsWidth}
use Rattle.level_stack.specs.Levels.{FrameState, LevelState, with_last, entered, locals_in, top_locals, frames_of, running_frames, running_locals}
use Rattle.level_stack.proofs.Last.{last_of-append, with_last-append, split_last}

pub level_runs : (levels : List LevelState) → 0 < length (running_frames levels) → 0 < length levels
level_runs [] h = h
level_runs (level ∷ levels) h = omega arith

pub not_narrow : (width : ℕ) → IsWidth width → 0 < width
not_narrow width (inl e) = omega arith
not_narrow width (inr (inl e)) = omega arith
not_narrow width (inr (inr e)) = omega arith

-- where the block that runs has local bytes
pub block_runs : (levels : List LevelState) (at width : ℕ) → IsWidth width → at + width ≤ length (running_locals levels) → 0 < length levels
block_runs [] at width w h = let n = not_narrow width w in omega arith
block_runs (level ∷ levels) at width w h = omega arith

pub block_begun : (frames : List FrameState) (at width : ℕ) → IsWidth width → at + width ≤ length (top_locals frames) → 0 < length frames
block_begun [] at width w h = let n = not_narrow width w in omega arith
block_begun (frame ∷ frames) at width w h = omega arith

-- where it has start information
pub informed_runs : (levels : List LevelState) → 20 ≤ length (running_locals levels) → 0 < length levels
informed_runs [] h = absurd (omega arith)
informed_runs (level ∷ levels) h = omega arith

pub informed_begun : (frames : List FrameState) → 20 ≤ length (top_locals frames) → 0 < length frames
informed_begun [] h = absurd (omega arith)
informed_begun (frame ∷ frames) h = omega arith

-- a block that begins has the local bytes that it wants
pub begins_with : (levels : List LevelState) (block : BlockRef) (temp : ℕ) → 0 < length levels → length (running_locals (with_last (entered block temp) levels)) ≡ temp
begins_with levels block temp some =
    let r = split_last levels some in
    let begun : FrameState = record { block = block; locals = replicate temp 0 } in
    ap (λ l. length (running_locals (with_last (entered block temp) l))) r.2
    ∙ ap (λ l. length (running_locals l)) (with_last-append (entered block temp) r.0 r.1)
    ∙ ap (λ o. length (top_locals (frames_of o))) (last_of-append r.0 (entered block temp r.1))
    ∙ ap (λ o. length (locals_in o)) (last_of-append r.1.frames begun)
    ∙ length-replicate temp 0

no_frame : (frames : List FrameState) → length frames ≡ 0 → frames ≡ []
no_frame [] e = refl
no_frame (frame ∷ frames) e = absurd (omega arith)

-- where no block runs
pub none_runs : (levels : List LevelState) → length (running_frames levels) ≡ 0 → running_frames levels ≡ []
none_runs levels e = no_frame (running_frames levels) e
