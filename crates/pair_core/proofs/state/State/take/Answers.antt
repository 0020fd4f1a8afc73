use Rattle.std.proofs.Common.{◌≡◌, ◌∙◌, ◌≤◌, true, length, take, sym, subst, ap, arith}
use Rattle.mc_machine.specs.Meaning.{is_dated}
use Rattle.pair_core.specs.OwnParts.{own_place}
use Rattle.pair_core.specs.Sides.{of_side}
use Rattle.pair_core.specs.Kept.{setup_of, log_of}
use Rattle.pair_core.specs.Played.{answers_of}
use Rattle.pair_core.proofs.OwnParts.{last_next}
use Rattle.pair_core.proofs.Taking.{met, can_ask_at, takes_next, stands_at, asked_same, answers_length, take_next, put_taken, took}
use Rattle.pair_core.proofs.state.State.take.Goals as goal

pub ask-requires : goal.ask-requires
ask-requires c =
    let own = of_side c.args.self.now.parts c.args.side in
    let here = rw c.place_of-moment.ensures at c.entry_at-entry.ensures in
    let m = met (setup_of c.args.self.now) (log_of c.args.self.now) (own_place own) c.entry_at-entry.result c.requires.kept.plan c.requires.good here in
    can_ask_at c.args.self.now.setup.program own c.args.self.now.log.record.entries c.args.sub.now c.requires.at c.requires.can.0 m.going

pub take-requires-clause-takes : goal.take-requires-clause-takes
take-requires-clause-takes c =
    let own = of_side c.args.self.now.parts c.args.side in
    let here = rw c.place_of-moment.ensures at c.entry_at-entry.ensures in
    let m = met (setup_of c.args.self.now) (log_of c.args.self.now) (own_place own) c.entry_at-entry.result c.requires.kept.plan c.requires.good here in
    takes_next c.args.self.now.setup.program own c.args.self.now.log.record.entries c.args.sub.now c.ask.new.self c.entry_at-entry.result.request c.ask.result c.entry_at-entry.result.answer
    c.requires.at c.requires.can.0 c.ask.ensures.waits (c.ask.ensures.next c.args.self.now.setup.program _) m.asked m.fits

pub take-requires-clause-few : goal.take-requires-clause-few
take-requires-clause-few c = λ front life is.
    let own = of_side c.args.self.now.parts c.args.side in
    let next = last_next own.lives front life (sym (c.ask.ensures.lives ∙ c.requires.at.lives) ∙ is) in
    omega (arith, next, c.requires.can.2, c.requires.kept.few, c.requires.kept.plan.end_high)

pub returns-clause-at : goal.returns-clause-at
returns-clause-at c =
    let self = c.args.self.now in
    let own = of_side self.parts c.args.side in
    let es = self.log.record.entries in
    let e = c.entry_at-entry.result in
    let here = rw c.place_of-moment.ensures at c.entry_at-entry.ensures in
    let m = met (setup_of self) (log_of self) (own_place own) e c.requires.kept.plan c.requires.good here in
    let alive = c.requires.can.0 in
    let given = answers_of (take (own_place own) es) in
    let lives = c.ask.ensures.lives ∙ c.requires.at.lives in
    let asks = asked_same self.setup.program own es c.args.sub.now c.ask.new.self e.request c.ask.result c.requires.at alive (c.ask.ensures.next self.setup.program given) m.asked in
    let less : own_place own ≤ length es = omega (arith, c.requires.can.2) in
    let from : c.from.result ≡ own_place own = c.from.ensures ∙ c.place_of-moment.ensures in
    let moment : c.from.result ≡ length given = from ∙ sym (answers_length es (own_place own) less) in
    let stands = c.ask.ensures.stands self.setup.program given (stands_at self.setup.program own es c.args.sub.now c.requires.at alive) in
    put_taken self.parts c.take_one.new.parts c.args.side self.setup.program es c.take.new.self c.take_one.ensures
    (took self.setup.program own (take (own_place own) es) es e c.ask.new.self c.take.new.self c.ask.result alive c.requires.can.1 lives c.ask.ensures.waits asks
    (take_next es (own_place own) e here) c.take.ensures.lives c.take.ensures.going (c.take.ensures.stands self.setup.program given moment (subst (λ n. is_dated n e.answer ≡ true) (sym from) m.dated) stands))

pub take_one-requires : goal.take_one-requires
take_one-requires c = omega (arith, c.requires.can.2, c.requires.kept.few, c.requires.kept.plan.end_high)
