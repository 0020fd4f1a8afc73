-- The last block goes with its local bytes.
use Rattle.std.proofs.Common.{◌-◌, List, length, take, sym, ap, ◌∙◌}
use Rattle.level_stack.specs.Levels.{FrameState, LevelState, without_last, left}
use Rattle.level_stack.specs.Inside.{frames_in}
use Rattle.level_stack.proofs.Frames.{wants, leaving}
use Rattle.level_stack.proofs.level.Level.leave.Goals as goal

pub returns : goal.returns
returns c =
    let frames = c.pop.new.self.items in
    let frame = c.in-Some.frame in
    let bytes = c.self.inside.locals.items in
    let all = c.in-Some.ensures.items in
    let made : List FrameState → LevelState = λ l. record { prio = c.self.inside.prio; frames = l } in
    ap (λ l. made (frames_in frames l)) c.truncate.ensures.items
    ∙ ap (λ n. made (frames_in frames (take (n - c.from.result) bytes))) c.len.ensures.value
    ∙ ap (λ n. made (frames_in frames (take (length bytes - n) bytes))) c.from.ensures
    ∙ ap made (leaving frames frame bytes (ap wants (sym all) ∙ c.self.invariant))
    ∙ ap (λ l. made (without_last (frames_in l bytes))) (sym all)
    ∙ ap left c.self.view_is
