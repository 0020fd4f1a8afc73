use Rattle.std.proofs.Common.{rules, arith, is_some, ap, sym, subst, ◌∙◌}
use Rattle.pair_lock.specs.Meetings.{CalledWith, TakesWith}
use Rattle.pair_lock.specs.Views.{update}
use Rattle.pair_lock.specs.Seats.{view_of}
use Rattle.s7_events.specs.declared.entry.Side.TheVariants.{A, B}
use Rattle.pair_lock.proofs.Turning.{same_known, keeps_same, keeps_held, learns, learned_side}
use Rattle.pair_lock.proofs.seat.PairLock.meet_with.Goals as goal

pub call_with-answer-requires : goal.call_with-answer-requires
call_with-answer-requires g c =
    let v = c.in-Some-take.value in
    let fits = same_known g.T.History.entries g.T.History.own (view_of c.args.seat) c.loop.inner.me.0 v (λ s. sym (c.loop.invariant.1 s)) c.in-Some-take.ensures.free.0 in
    subst (λ s. TakesWith g.F.FnOnce c.args.f v s) (sym c.loop.invariant.5) (c.requires.call v fits).0

pub give-requires-clause-out : goal.give-requires-clause-out
give-requires-clause-out g c =
    let v = c.in-Some-take.value in
    let free = c.in-Some-take.ensures.free in
    let fits = same_known g.T.History.entries g.T.History.own (view_of c.args.seat) c.loop.inner.me.0 v (λ s. sym (c.loop.invariant.1 s)) free.0 in
    let called = subst (λ s. CalledWith g.F.FnOnce c.args.f v s c.call_with-answer.result c.call_with-answer.new.value c.call_with-answer.new.state) c.loop.invariant.5 c.call_with-answer.ensures in
    let kept = (c.requires.call v fits).1 _ _ _ called in (
      v,
      ap (λ m. m.0.took) free.1,
      ap (λ m. m.1) free.1,
      keeps_held g.T.History.entries g.T.History.own c.loop.inner.me.0 _ _ _ (ap (λ m. m.0) free.1) (keeps_same g.T.History.entries g.T.History.own (view_of c.args.seat) c.loop.inner.me.0 _ _ c.loop.invariant.1 kept),
    )

pub returns-in-Some-take : goal.returns-in-Some-take
returns-in-Some-take g c =
    let v = c.in-Some-take.value in
    let free = c.in-Some-take.ensures.free in
    let fits = same_known g.T.History.entries g.T.History.own (view_of c.args.seat) c.loop.inner.me.0 v (λ s. sym (c.loop.invariant.1 s)) free.0 in
    let called = subst (λ s. CalledWith g.F.FnOnce c.args.f v s c.call_with-answer.result c.call_with-answer.new.value c.call_with-answer.new.state) c.loop.invariant.5 c.call_with-answer.ensures in
    let know = learns g.T.History.entries g.T.History.own c.loop.inner.me.0 c.take.new.seat.me.0 c.give.new.seat.me.0 v _ (ap (λ m. m.0) free.1) (ap (λ m. m.0) c.give.ensures.given) in
    let side = learned_side c.loop.inner.me.0 c.give.new.seat.me.0 c.call_with-answer.new.value know.knows in
    record {
      met = (
        record { lock = search rules; a = side A ∙ ap is_some (c.loop.invariant.1 A); b = side B ∙ ap is_some (c.loop.invariant.1 B) },
        v,
        c.call_with-answer.new.value,
        record { fits = fits; called = called; keeps = (c.requires.call v fits).1 _ _ _ called },
        record {
          knows = λ s. know.knows s ∙ ap (λ o. update o c.call_with-answer.new.value) (c.loop.invariant.1 s);
          tries = let t = c.loop.invariant.6 in let n = know.tries in omega arith;
        },
      );
    }
