use Rattle.std.proofs.Common.{rules, ap, sym, subst, ◌∙◌, ◌≡◌}
use mathlib.Core.Option.{some-injective}
use Rattle.s7_events.specs.declared.entry.Side.TheVariants.{A, B}
use Rattle.pair_lock.specs.Turns.{FollowsKnown}
use Rattle.pair_lock.proofs.Turning.{joins_seats, closes_both}
use Rattle.pair_lock.proofs.seat.PairLock.close.Goals as goal

pub join_seat-requires : goal.join_seat-requires
join_seat-requires g c = (
  c.requires.lock.0,
  c.requires.lock.1,
  c.args.b.idle.0,
  search rules,
  joins_seats g.T.History.entries g.T.History.own _ _ _ _ c.args.a.idle.1 c.args.b.idle.1,
)

pub unreachable-requires : goal.unreachable-requires
unreachable-requires g c =
    let r = closes_both g.T.History.entries g.T.History.own _ _ c.args.a.seat.me.0 c.args.b.seat.me.0 _ _ (ap (λ m. m.0) c.join_seat.ensures.2) c.requires.sides.0 c.requires.sides.1 c.close_with-closed.ensures.values.2 in
    let e = sym c.take-last.ensures.value ∙ r.1 in
    absurd (let last = some-injective _ _ e in let none = c.in-None.is in cc)

pub returns : goal.returns
returns g c =
    let r = closes_both g.T.History.entries g.T.History.own _ _ c.args.a.seat.me.0 c.args.b.seat.me.0 _ _ (ap (λ m. m.0) c.join_seat.ensures.2) c.requires.sides.0 c.requires.sides.1 c.close_with-closed.ensures.values.2 in
    let e = sym c.take-last.ensures.value ∙ r.1 in
    let same : c.in-Some.value ≡ r.0 = cc (some-injective _ _ e, c.in-Some.is) in
    subst (λ w. FollowsKnown g.T.History.entries g.T.History.own A c.args.a.seat.me.0.a w × FollowsKnown g.T.History.entries g.T.History.own B c.args.b.seat.me.0.b w) (sym same) (r.2, r.3)
