use Rattle.std.proofs.Common.{rules, ap}
use Rattle.s7_events.specs.declared.entry.Side.TheVariants.{A, B}
use Rattle.pair_lock.proofs.Turning.{keeps_held, learns, learned_side}
use Rattle.pair_lock.proofs.seat.PairLock.try_meet.Goals as goal

pub give-requires-clause-out : goal.give-requires-clause-out
give-requires-clause-out g c =
    let free = c.in-Some.ensures.free in (
      c.in-Some.value,
      ap (λ m. m.0.took) free.1,
      ap (λ m. m.1) free.1,
      keeps_held g.T.History.entries g.T.History.own c.args.seat.seat.me.0 _ _ _ (ap (λ m. m.0) free.1) ((c.requires.call c.in-Some.value free.0).1 _ _ c.call_on-answer.ensures),
    )

pub returns-in-Some-clause-met : goal.returns-in-Some-clause-met
returns-in-Some-clause-met g c =
    let free = c.in-Some.ensures.free in
    let know = learns g.T.History.entries g.T.History.own c.args.seat.seat.me.0 c.take.new.seat.me.0 c.give.new.seat.me.0 c.in-Some.value _ (ap (λ m. m.0) free.1) (ap (λ m. m.0) c.give.ensures.given) in
    let side = learned_side c.args.seat.seat.me.0 c.give.new.seat.me.0 c.call_on-answer.new.value know.knows in (
      record { lock = search rules; a = side A; b = side B },
      c.in-Some.value,
      c.call_on-answer.new.value,
      record { fits = free.0; called = c.call_on-answer.ensures; keeps = (c.requires.call c.in-Some.value free.0).1 _ _ c.call_on-answer.ensures },
      know,
    )
