-- A piece of the level's last local bytes is written.
use Rattle.std.proofs.Common.{◌≡◌, ◌+◌, ◌-◌, ◌<◌, ◌≤◌, List, length, ap, ◌∙◌, arith}
use Rattle.std.specs.List.{refill}
use Rattle.std.specs.Int.{bytes_high_first}
use Rattle.level_stack.specs.Values.{overwritten}
use Rattle.level_stack.specs.Levels.{FrameState, LevelState, top_locals, written}
use Rattle.level_stack.specs.Inside.{frames_in}
use Rattle.level_stack.proofs.Frames.{length-frames_in, length-bytes_high_first, top_within, written_top}
use Rattle.level_stack.proofs.Running.{block_begun}
use Rattle.level_stack.proofs.level.Level.write.Goals as goal

pub overflow_sub-from : goal.overflow_sub-from
overflow_sub-from c =
    let frames = c.self.inside.frames.items in
    let bytes = c.self.inside.locals.items in
    let n = length-frames_in frames bytes in
    let m = ap (λ (l : LevelState). length l.frames) c.self.view_is in
    let b = block_begun c.args.self.now.frames c.args.at_byte c.args.width c.requires.width c.requires.holds in
    let w = top_within frames bytes (omega arith) c.self.invariant in
    let t = ap (λ (l : LevelState). length (top_locals l.frames)) c.self.view_is in
    let s = ap length c.top.ensures in
    let l = c.len.ensures.value in
    omega arith

pub put_value_at-requires-clause-holds : goal.put_value_at-requires-clause-holds
put_value_at-requires-clause-holds c =
    let frames = c.self.inside.frames.items in
    let bytes = c.self.inside.locals.items in
    let n = length-frames_in frames bytes in
    let m = ap (λ (l : LevelState). length l.frames) c.self.view_is in
    let b = block_begun c.args.self.now.frames c.args.at_byte c.args.width c.requires.width c.requires.holds in
    let w = top_within frames bytes (omega arith) c.self.invariant in
    let t = ap (λ (l : LevelState). length (top_locals l.frames)) c.self.view_is in
    let s = ap length c.top.ensures in
    let l = c.len.ensures.value in
    let f = c.from.ensures in
    let v = ap length c.as_mut_slice.ensures.value in
    let h = c.requires.holds in
    omega arith

pub returns : goal.returns
returns c =
    let frames = c.self.inside.frames.items in
    let bytes = c.self.inside.locals.items in
    let piece = bytes_high_first c.args.width c.args.value in
    let n = length-frames_in frames bytes in
    let m = ap (λ (l : LevelState). length l.frames) c.self.view_is in
    let b = block_begun c.args.self.now.frames c.args.at_byte c.args.width c.requires.width c.requires.holds in
    let filled : 0 < length frames = omega arith in
    let t : length (top_locals (frames_in frames bytes)) ≡ length (top_locals c.args.self.now.frames) =
    ap (λ (l : LevelState). length (top_locals l.frames)) c.self.view_is in
    let h = c.requires.holds in
    let p = length-bytes_high_first c.args.width c.args.value in
    let holds : c.args.at_byte + length piece ≤ length (top_locals (frames_in frames bytes)) = omega arith in
    let s = ap length c.top.ensures in
    let l = c.len.ensures.value in
    let f = c.from.ensures in
    let place : c.len.result - length c.top.result.now + c.from.result ≡ length bytes - length (top_locals (frames_in frames bytes)) + c.args.at_byte =
    omega arith in
    let made : List FrameState → LevelState = λ fs. record { prio = c.self.inside.prio; frames = fs } in
    ap (λ bs. made (frames_in frames (refill (length bytes) bytes bs))) c.put_value_at.ensures
    ∙ ap (λ bs. made (frames_in frames (refill (length bytes) bytes (overwritten bs (c.len.result - length c.top.result.now + c.from.result) piece)))) c.as_mut_slice.ensures.value
    ∙ ap (λ i. made (frames_in frames (refill (length bytes) bytes (overwritten bytes i piece)))) place
    ∙ ap made (written_top frames bytes c.args.at_byte piece filled c.self.invariant holds)
    ∙ ap (written c.args.at_byte c.args.width c.args.value) c.self.view_is
