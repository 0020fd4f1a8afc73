-- The local bytes of the block that runs are the last of the level's.
use Rattle.std.proofs.Common.{◌≡◌, ◌-◌, ◌<◌, length, drop, get_or, ap, ◌∙◌, arith}
use Rattle.std.proofs.lemmas.List.{take_rest}
use Rattle.s7_base.specs.declared.blocks.CodeKind.TheVariants.{Ob}
use Rattle.level_stack.specs.declared.level.Frame.{Frame}
use Rattle.level_stack.specs.Levels.{LevelState, top_locals}
use Rattle.level_stack.proofs.Frames.{length-frames_in, top_end}
use Rattle.level_stack.proofs.level.Level.top.Goals as goal

pub returns : goal.returns
returns c =
    let frames = c.self.inside.frames.items in
    let bytes = c.self.inside.locals.items in
    let blank : Frame = record { block = record { kind = Ob; number = 0 }; temp = 0 } in
    let n = length-frames_in frames bytes in
    let m = ap (λ (l : LevelState). length l.frames) c.self.view_is in
    let r = c.requires in
    let filled : 0 < length frames = omega arith in
    let temp : c.from.result ≡ (get_or frames (length frames - 1) blank).temp =
    c.from.ensures
    ∙ ap (λ l. (get_or l (c.len.result - 1) blank).temp) c.deref.ensures.0
    ∙ ap (λ i. (get_or frames (i - 1) blank).temp) c.len.ensures.value in
    take_rest c.deref-2.result.now (c.len-2.result - c.from.result)
    ∙ ap (λ l. drop (c.len-2.result - c.from.result) l) c.deref-2.ensures.0
    ∙ ap (λ i. drop (i - c.from.result) bytes) c.len-2.ensures.value
    ∙ ap (λ i. drop (length bytes - i) bytes) temp
    ∙ top_end frames bytes blank filled c.self.invariant
    ∙ ap (λ (l : LevelState). top_locals l.frames) c.self.view_is
