-- How many blocks have begun, and how many local bytes they have; and the block that begins.
use Rattle.std.proofs.Common.{List, ◌∷◌, [], ◌++◌, length, ap, ◌∙◌, arith}
use Rattle.level_stack.specs.Levels.{FrameState, LevelState, local_count, entered}
use Rattle.level_stack.specs.Inside.{frames_in}
use Rattle.level_stack.proofs.Frames.{length-frames_in, local_count-frames_in, entering}
use Rattle.level_stack.proofs.level.Level.enter.Goals as goal

pub returns-then-is_full-clause-depth : goal.returns-then-is_full-clause-depth
returns-then-is_full-clause-depth c =
    let n = length-frames_in c.self.inside.frames.items c.self.inside.locals.items in
    let m = ap (λ (l : LevelState). length l.frames) c.self.view_is in
    let v = c.is_full.ensures.value in
    let w = c.if-is_full.true in
    grind arith

pub returns-then-is_full-clause-local : goal.returns-then-is_full-clause-local
returns-then-is_full-clause-local c =
    let n = length-frames_in c.self.inside.frames.items c.self.inside.locals.items in
    let m = ap (λ (l : LevelState). length l.frames) c.self.view_is in
    let v = c.is_full.ensures.value in
    let w = c.if-is_full.true in
    grind arith

pub returns-then-from-remaining_capacity-clause-depth : goal.returns-then-from-remaining_capacity-clause-depth
returns-then-from-remaining_capacity-clause-depth c =
    let n = length-frames_in c.self.inside.frames.items c.self.inside.locals.items in
    let m = ap (λ (l : LevelState). length l.frames) c.self.view_is in
    let v = c.is_full.ensures.value in
    let w = c.if-is_full.false in
    grind arith

pub returns-then-from-remaining_capacity-clause-local : goal.returns-then-from-remaining_capacity-clause-local
returns-then-from-remaining_capacity-clause-local c =
    let n = length-frames_in c.self.inside.frames.items c.self.inside.locals.items in
    let m = ap (λ (l : LevelState). length l.frames) c.self.view_is in
    let k = local_count-frames_in c.self.inside.frames.items c.self.inside.locals.items c.self.invariant in
    let u = ap (λ (l : LevelState). local_count l.frames) c.self.view_is in
    let v = c.is_full.ensures.value in
    let w = c.if-is_full.false in
    let f = c.is_full.ensures.fits in
    let r = c.remaining_capacity.ensures in
    let t = c.if-from-remaining_capacity.true in
    let e = c.from.ensures in
    grind arith

pub returns-clause-depth : goal.returns-clause-depth
returns-clause-depth c =
    let n = length-frames_in c.self.inside.frames.items c.self.inside.locals.items in
    let m = ap (λ (l : LevelState). length l.frames) c.self.view_is in
    let v = c.is_full.ensures.value in
    let w = c.if-is_full.false in
    grind arith

pub returns-clause-local : goal.returns-clause-local
returns-clause-local c =
    let k = local_count-frames_in c.self.inside.frames.items c.self.inside.locals.items c.self.invariant in
    let u = ap (λ (l : LevelState). local_count l.frames) c.self.view_is in
    let r = c.remaining_capacity.ensures in
    let t = c.if-from-remaining_capacity.false in
    let e = c.from.ensures in
    grind arith

pub returns-clause-entered : goal.returns-clause-entered
returns-clause-entered c =
    let frames = c.self.inside.frames.items in
    let bytes = c.self.inside.locals.items in
    let made : List FrameState → LevelState = λ l. record { prio = c.self.inside.prio; frames = l } in
    ap (λ l. made (frames_in l c.try_extend_from_slice.new.self.items)) c.push.ensures.items
    ∙ ap (λ l. made (frames_in (frames ++ record { block = c.args.block; temp = c.args.temp } ∷ []) l)) c.in-Ok.ensures.ok
    ∙ ap (λ l. made (frames_in (frames ++ record { block = c.args.block; temp = c.args.temp } ∷ []) (bytes ++ l))) c.zeros.ensures
    ∙ ap made (entering frames bytes c.args.block c.args.temp c.self.invariant)
    ∙ ap (entered c.args.block c.args.temp) c.self.view_is
