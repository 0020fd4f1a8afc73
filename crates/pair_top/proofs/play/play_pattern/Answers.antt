-- The visits of a pattern, part by part.
use Rattle.std.proofs.Common.{◌++◌, [], true, false, refl, sym, ◌∙◌, ap, subst}
use Rattle.std.specs.Option.{option_map}
use Rattle.pair_core.specs.Setup.{Setup}
use Rattle.pair_core.specs.World.{play}
use Rattle.pair_top.specs.Pattern.{repeated, parts_of}
use Rattle.pair_top.specs.PatternView.{sides_in, part_view, pieces_left}
use Rattle.pair_top.specs.WordsView.{visits_in}
use Rattle.pair_top.specs.Playing.{Plays}
use Rattle.pair_top.proofs.Plays.{Reaches, reaches_on, reaches_over, ends_all, plays_all, with_over, visits_left, one_more_part, pattern_visits}
use Rattle.pair_top.proofs.play.play_pattern.Goals as goal

pub loop-left-init : goal.loop-left-init
loop-left-init c =
    let known = pattern_visits c.args.pattern.now c.requires.pattern in
    record {
      setup = refl;
      at = c.requires.at;
      parts = known.0;
      played = λ more. ap (λ xs. play c.args.pair.now.setup c.args.pair.now.world (xs ++ more)) known.1;
    }

pub returns-then-play_part-clause-played : goal.returns-then-play_part-clause-played
returns-then-play_part-clause-played c =
    let p = c.args.pair.now.setup in
    let w = c.args.pair.now.world in
    let all = visits_in c.args.pattern.now in
    let v = c.loop-left.pair.world in
    let new = c.play_part.new.pair.world in
    let part = c.in-Some-part_from.part in
    let sides = repeated part.times (sides_in part.letters.now) in
    let ps = pieces_left c.first_piece.result.1 in
    let piece = c.first_piece.result.0.now in
    let is = sym c.part_from.ensures.part ∙ ap (λ o. option_map part_view o) c.in-Some-part_from.is in
    let some = rw (c.in-Some.is, c.first_piece.ensures.pieces) at c.loop-left.invariant.parts in
    let more = one_more_part piece (part_view part) ps is some in
    let so_far = rw (c.in-Some.is, c.first_piece.ensures.pieces) at c.loop-left.invariant.played in
    let left : Reaches p w all v (sides ++ visits_left (parts_of ps)) = subst (λ ys. Reaches p w all v ys) more.1 so_far in
    let one : Plays p v sides true new =
    subst (λ (q : Setup). Plays q v sides true new) c.loop-left.invariant.setup (with_over c.loop-left.pair.setup v new sides c.play_part.result true c.if-play_part.true c.play_part.ensures.played) in
    ends_all p w new all (reaches_over p w v new all sides (visits_left (parts_of ps)) left one)

pub loop-left-preserved : goal.loop-left-preserved
loop-left-preserved c =
    let p = c.args.pair.now.setup in
    let w = c.args.pair.now.world in
    let all = visits_in c.args.pattern.now in
    let v = c.loop-left.pair.world in
    let new = c.play_part.new.pair.world in
    let part = c.in-Some-part_from.part in
    let sides = repeated part.times (sides_in part.letters.now) in
    let ps = pieces_left c.first_piece.result.1 in
    let piece = c.first_piece.result.0.now in
    let is = sym c.part_from.ensures.part ∙ ap (λ o. option_map part_view o) c.in-Some-part_from.is in
    let some = rw (c.in-Some.is, c.first_piece.ensures.pieces) at c.loop-left.invariant.parts in
    let more = one_more_part piece (part_view part) ps is some in
    let so_far = rw (c.in-Some.is, c.first_piece.ensures.pieces) at c.loop-left.invariant.played in
    let left : Reaches p w all v (sides ++ visits_left (parts_of ps)) = subst (λ ys. Reaches p w all v ys) more.1 so_far in
    let one : Plays p v sides false new =
    subst (λ (q : Setup). Plays q v sides false new) c.loop-left.invariant.setup (with_over c.loop-left.pair.setup v new sides c.play_part.result false c.if-play_part.false c.play_part.ensures.played) in
    record {
      setup = c.play_part.ensures.setup ∙ c.loop-left.invariant.setup;
      at = c.play_part.ensures.at;
      parts = more.0;
      played = reaches_on p w v new all sides (visits_left (parts_of ps)) left one;
    }

pub returns-clause-played : goal.returns-clause-played
returns-clause-played c =
    let p = c.args.pair.now.setup in
    let w = c.args.pair.now.world in
    let all = visits_in c.args.pattern.now in
    let so_far : Reaches p w all c.loop-left.pair.world [] = rw c.in_default.is at c.loop-left.invariant.played in
    plays_all p w c.loop-left.pair.world all so_far
