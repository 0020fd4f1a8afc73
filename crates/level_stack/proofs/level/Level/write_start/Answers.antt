-- The first of the level's last local bytes are written.
use Rattle.std.proofs.Common.{◌≡◌, ◌+◌, ◌-◌, ◌<◌, ◌≤◌, List, length, ap, ◌∙◌, arith}
use Rattle.std.specs.List.{refill}
use Rattle.level_stack.specs.Values.{overwritten}
use Rattle.level_stack.specs.Levels.{FrameState, LevelState, top_locals, started}
use Rattle.level_stack.specs.Inside.{frames_in}
use Rattle.level_stack.proofs.Frames.{length-frames_in, top_within, written_top}
use Rattle.level_stack.proofs.Running.{informed_begun}
use Rattle.level_stack.proofs.level.Level.write_start.Goals as goal

pub overflow_sub-from : goal.overflow_sub-from
overflow_sub-from c =
    let frames = c.self.inside.frames.items in
    let bytes = c.self.inside.locals.items in
    let n = length-frames_in frames bytes in
    let m = ap (λ (l : LevelState). length l.frames) c.self.view_is in
    let b = informed_begun c.args.self.now.frames c.requires in
    let w = top_within frames bytes (omega arith) c.self.invariant in
    let t = ap (λ (l : LevelState). length (top_locals l.frames)) c.self.view_is in
    let s = ap length c.top.ensures in
    let l = c.len.ensures.value in
    omega arith

pub put_start_at-requires : goal.put_start_at-requires
put_start_at-requires c =
    let frames = c.self.inside.frames.items in
    let bytes = c.self.inside.locals.items in
    let n = length-frames_in frames bytes in
    let m = ap (λ (l : LevelState). length l.frames) c.self.view_is in
    let b = informed_begun c.args.self.now.frames c.requires in
    let w = top_within frames bytes (omega arith) c.self.invariant in
    let t = ap (λ (l : LevelState). length (top_locals l.frames)) c.self.view_is in
    let s = ap length c.top.ensures in
    let l = c.len.ensures.value in
    let v = ap length c.as_mut_slice.ensures.value in
    let h = c.requires in
    omega arith

pub returns : goal.returns
returns c =
    let frames = c.self.inside.frames.items in
    let bytes = c.self.inside.locals.items in
    let piece = c.args.bytes.now in
    let n = length-frames_in frames bytes in
    let m = ap (λ (l : LevelState). length l.frames) c.self.view_is in
    let b = informed_begun c.args.self.now.frames c.requires in
    let filled : 0 < length frames = omega arith in
    let t : length (top_locals (frames_in frames bytes)) ≡ length (top_locals c.args.self.now.frames) =
    ap (λ (l : LevelState). length (top_locals l.frames)) c.self.view_is in
    let h = c.requires in
    let p : length piece ≡ 20 = c.told-bytes in
    let holds : 0 + length piece ≤ length (top_locals (frames_in frames bytes)) = omega arith in
    let s = ap length c.top.ensures in
    let l = c.len.ensures.value in
    let place : c.len.result - length c.top.result.now ≡ length bytes - length (top_locals (frames_in frames bytes)) + 0 =
    omega arith in
    let made : List FrameState → LevelState = λ fs. record { prio = c.self.inside.prio; frames = fs } in
    ap (λ bs. made (frames_in frames (refill (length bytes) bytes bs))) c.put_start_at.ensures
    ∙ ap (λ bs. made (frames_in frames (refill (length bytes) bytes (overwritten bs (c.len.result - length c.top.result.now) piece)))) c.as_mut_slice.ensures.value
    ∙ ap (λ i. made (frames_in frames (refill (length bytes) bytes (overwritten bytes i piece)))) place
    ∙ ap made (written_top frames bytes 0 piece filled c.self.invariant holds)
    ∙ ap (started piece) c.self.view_is
