-- The visits of a part, again and again.
use Rattle.std.proofs.Common.{◌+◌, ◌-◌, ◌++◌, true, false, ◌∙◌, subst}
use Rattle.pair_core.specs.Setup.{Setup}
use Rattle.pair_top.specs.Pattern.{repeated}
use Rattle.pair_top.specs.PatternView.{sides_in}
use Rattle.pair_top.specs.Playing.{Plays}
use Rattle.pair_top.proofs.Plays.{Reaches, reaches_on, reaches_over, repeated_more, with_over}
use Rattle.pair_top.proofs.play.play_part.Goals as goal

pub returns-then-play_letters-clause-played : goal.returns-then-play_letters-clause-played
returns-then-play_letters-clause-played c =
    let p = c.args.pair.now.setup in
    let sides = sides_in c.args.letters.now in
    let w = c.args.pair.now.world in
    let v = c.loop.pair.world in
    let new = c.play_letters.new.pair.world in
    let rest = repeated (c.args.times - (c.loop.counter + 1)) sides in
    let left : Reaches p w (repeated c.args.times sides) v (sides ++ rest) =
    subst (λ ys. Reaches p w (repeated c.args.times sides) v ys) (repeated_more c.loop.counter c.args.times sides c.loop-test.true) c.loop.invariant.played in
    let one : Plays p v sides true new =
    subst (λ (q : Setup). Plays q v sides true new) c.loop.invariant.setup (with_over c.loop.pair.setup v new sides c.play_letters.result true c.if-play_letters.true c.play_letters.ensures.played) in
    reaches_over p w v new (repeated c.args.times sides) sides rest left one

pub loop-preserved : goal.loop-preserved
loop-preserved c =
    let p = c.args.pair.now.setup in
    let sides = sides_in c.args.letters.now in
    let w = c.args.pair.now.world in
    let v = c.loop.pair.world in
    let new = c.play_letters.new.pair.world in
    let rest = repeated (c.args.times - (c.loop.counter + 1)) sides in
    let left : Reaches p w (repeated c.args.times sides) v (sides ++ rest) =
    subst (λ ys. Reaches p w (repeated c.args.times sides) v ys) (repeated_more c.loop.counter c.args.times sides c.loop-test.true) c.loop.invariant.played in
    let one : Plays p v sides false new =
    subst (λ (q : Setup). Plays q v sides false new) c.loop.invariant.setup (with_over c.loop.pair.setup v new sides c.play_letters.result false c.if-play_letters.false c.play_letters.ensures.played) in
    record {
      setup = c.play_letters.ensures.setup ∙ c.loop.invariant.setup;
      at = c.play_letters.ensures.at;
      played = reaches_on p w v new (repeated c.args.times sides) sides rest left one;
    }
