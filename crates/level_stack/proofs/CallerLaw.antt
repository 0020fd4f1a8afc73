-- A block that begins, writes and ends leaves the levels as they were.
use Rattle.std.proofs.Common.{◌≡◌, ℕ, List, [], ◌∷◌, ◌++◌, replicate, refl, sym, ap, ◌∙◌, arith}
use Rattle.std.specs.Int.{bytes_high_first}
use Rattle.s7_base.specs.declared.blocks.BlockRef.{BlockRef}
use Rattle.level_stack.specs.Values.{overwritten}
use Rattle.level_stack.specs.Levels.{FrameState, LevelState, with_last, entered, left, written}
use Rattle.level_stack.specs.CallerLaw.{Write, after_writes, CallerIsKept}
use Rattle.level_stack.proofs.Last.{split_last, without_last-append, with_last-append}

-- the writes change the last block alone
only_the_last : (writes : List Write) (levels : List LevelState) (prio : ℕ) (frames : List FrameState) (frame : FrameState) → (changed : FrameState) × (after_writes writes (levels ++ record { prio = prio; frames = frames ++ frame ∷ [] } ∷ []) ≡ levels ++ record { prio = prio; frames = frames ++ changed ∷ [] } ∷ [])
only_the_last [] levels prio frames frame = (frame, refl)
only_the_last (w ∷ writes) levels prio frames frame =
    let change : FrameState → FrameState =
    λ f. record f { locals = overwritten f.locals w.at (bytes_high_first w.width w.value) } in
    let level : List FrameState → LevelState = λ fs. record { prio = prio; frames = fs } in
    let rest = only_the_last writes levels prio frames (change frame) in (
      rest.0,
      ap (λ l. after_writes writes l) (with_last-append (written w.at w.width w.value) levels (level (frames ++ frame ∷ [])))
          ∙ ap (λ fs. after_writes writes (levels ++ level fs ∷ [])) (with_last-append change frames frame)
          ∙ rest.1,
    )

no_level : (writes : List Write) → after_writes writes [] ≡ []
no_level [] = refl
no_level (w ∷ writes) = no_level writes

on_a_level : (below : List LevelState) (level : LevelState) (block : BlockRef) (temp : ℕ) (writes : List Write) → with_last left (after_writes writes (with_last (entered block temp) (below ++ level ∷ []))) ≡ below ++ level ∷ []
on_a_level below level block temp writes =
    let frame : FrameState = record { block = block; locals = replicate temp 0 } in
    let made : List FrameState → LevelState = λ fs. record { prio = level.prio; frames = fs } in
    let r = only_the_last writes below level.prio level.frames frame in
    ap (λ l. with_last left (after_writes writes l)) (with_last-append (entered block temp) below level)
    ∙ ap (λ l. with_last left l) r.1
    ∙ with_last-append left below (made (level.frames ++ r.0 ∷ []))
    ∙ ap (λ fs. below ++ made fs ∷ []) (without_last-append level.frames r.0)

pub caller_is_kept : CallerIsKept
caller_is_kept [] block temp writes = ap (λ l. with_last left l) (no_level writes)
caller_is_kept (level ∷ levels) block temp writes =
    let r = split_last (level ∷ levels) (omega arith) in
    ap (λ l. with_last left (after_writes writes (with_last (entered block temp) l))) r.2
    ∙ on_a_level r.0 r.1 block temp writes
    ∙ sym r.2
