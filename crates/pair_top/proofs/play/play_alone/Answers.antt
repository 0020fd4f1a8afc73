-- Visits of side A alone.
use Rattle.std.proofs.Common.{◌≡◌, ◌+◌, ◌*◌, ◌-◌, ◌++◌, ◌∷◌, [], List, replicate, true, false, refl, sym, ◌∙◌, ap, subst}
use Rattle.s7_events.specs.declared.entry.Side.{Side}
use Rattle.s7_events.specs.declared.entry.Side.TheVariants.{A}
use Rattle.pair_core.specs.Setup.{Setup}
use Rattle.pair_core.specs.Turns.{is_over}
use Rattle.pair_top.specs.Playing.{Plays}
use Rattle.pair_top.proofs.Plays.{Reaches, one_visit, replicate_left, reaches_on, reaches_over, ends_all}
use Rattle.pair_top.proofs.play.play_alone.Goals as goal

pub returns-then-is_over-clause-played : goal.returns-then-is_over-clause-played
returns-then-is_over-clause-played c =
    let p = c.args.pair.now.setup in
    let n = 3 * c.args.end + 1 in
    let xs : List Side = replicate n A in
    let v = c.loop.pair.world in
    let new = c.visit-turn.new.self.world in
    let left : Reaches p c.args.pair.now.world xs v ((A ∷ []) ++ replicate (n - (c.loop.counter + 1)) A) =
    subst (λ ys. Reaches p c.args.pair.now.world xs v ys) (replicate_left c.loop.counter n A c.loop-test.true) c.loop.invariant.played in
    let one : Plays p v (A ∷ []) true new =
    subst (λ (q : Setup). Plays q v (A ∷ []) true new) c.loop.invariant.setup
    (one_visit c.loop.pair.setup v new A true (ap is_over (sym c.visit-turn.ensures.turn) ∙ sym c.is_over.ensures ∙ c.if-is_over.true) (sym c.visit-turn.ensures.world)) in
    ends_all p c.args.pair.now.world new xs (reaches_over p c.args.pair.now.world v new xs (A ∷ []) _ left one)

pub loop-preserved : goal.loop-preserved
loop-preserved c =
    let p = c.args.pair.now.setup in
    let n = 3 * c.args.end + 1 in
    let xs : List Side = replicate n A in
    let v = c.loop.pair.world in
    let new = c.visit-turn.new.self.world in
    let left : Reaches p c.args.pair.now.world xs v ((A ∷ []) ++ replicate (n - (c.loop.counter + 1)) A) =
    subst (λ ys. Reaches p c.args.pair.now.world xs v ys) (replicate_left c.loop.counter n A c.loop-test.true) c.loop.invariant.played in
    let goes_on : false ≡ is_over c.visit-turn.result = sym (sym c.is_over.ensures ∙ c.if-is_over.false) in
    let one : Plays p v (A ∷ []) false new =
    subst (λ (q : Setup). Plays q v (A ∷ []) false new) c.loop.invariant.setup
    (one_visit c.loop.pair.setup v new A false (ap is_over (sym c.visit-turn.ensures.turn) ∙ sym goes_on) (sym c.visit-turn.ensures.world)) in
    record {
      bound = refl;
      alone = c.visit-turn.ensures.alone refl c.loop.counter c.loop.invariant.alone (sym goes_on);
      setup = c.visit-turn.ensures.setup ∙ c.loop.invariant.setup;
      at = record { first = c.visit-turn.ensures.sub; second = c.visit-turn.ensures.other c.args.b.now c.loop.invariant.at.second };
      played = reaches_on p c.args.pair.now.world v new xs (A ∷ []) _ left one;
    }
