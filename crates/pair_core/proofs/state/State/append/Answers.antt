use Rattle.std.proofs.Common.{◌≡◌, ◌∙◌, ◌++◌, ◌∷◌, [], true, length, refl, sym, ap, subst, arith}
use Rattle.std.proofs.lemmas.List.{length-map}
use Rattle.s7_events.specs.declared.entry.Entry.{Entry}
use Rattle.mc_machine.specs.Meaning.{is_dated}
use Rattle.pair_core.specs.Played.{answers_of}
use Rattle.pair_core.specs.Ledger.{ledger}
use Rattle.pair_core.specs.OwnParts.{own_place}
use Rattle.pair_core.specs.Sides.{of_side}
use Rattle.pair_core.specs.Kept.{setup_of, log_of}
use Rattle.pair_core.proofs.Answers.{lawful_dated}
use Rattle.pair_core.proofs.Fits.{lawful_takes}
use Rattle.pair_core.proofs.Waiting.{ledger_fine}
use Rattle.pair_core.proofs.Snoc.{moment_is}
use Rattle.pair_core.proofs.Opens.{going_at, open_room}
use Rattle.pair_core.proofs.OwnParts.{last_next}
use Rattle.pair_core.proofs.Taking.{can_ask_at, can_take, stands_all, take_added, took, put_added}
use Rattle.pair_core.proofs.state.State.append.Goals as goal

pub ask-request-requires : goal.ask-request-requires
ask-request-requires c =
    let self = c.args.self.now in
    let own = of_side self.parts c.args.side in
    can_ask_at self.setup.program own self.log.record.entries c.args.sub.now c.requires.at c.requires.can.0
    (going_at (setup_of self) (log_of self) (own_place own) c.requires.can.3 c.requires.can.2)

pub take-requires-clause-takes : goal.take-requires-clause-takes
take-requires-clause-takes c =
    let self = c.args.self.now in
    can_take c.ask-request.new.self.machine c.ask-request.result c.answer-answer.result c.ask-request.ensures.waits
    (lawful_takes (setup_of self) (ledger (setup_of self) self.log.record.entries) c.ask-request.result c.answer-answer.result c.requires.kept.plan
    (ledger_fine (setup_of self) self.log.record.entries c.requires.kept.plan) c.answer-answer.ensures)

pub add-requires-clause-room : goal.add-requires-clause-room
add-requires-clause-room c =
    let self = c.args.self.now in
    open_room (setup_of self) (log_of self) c.requires.can.3

pub take-requires-clause-few : goal.take-requires-clause-few
take-requires-clause-few c = λ front life is.
    let own = of_side c.args.self.now.parts c.args.side in
    let next = last_next own.lives front life (sym (c.ask-request.ensures.lives ∙ c.requires.at.lives) ∙ is) in
    omega (arith, next, c.requires.can.2, c.requires.kept.few, c.requires.kept.plan.end_high)

pub returns-clause-at : goal.returns-clause-at
returns-clause-at c =
    let self = c.args.self.now in
    let own = of_side self.parts c.args.side in
    let es = self.log.record.entries in
    let e : Entry = record { request = c.ask-request.result; answer = c.answer-answer.result } in
    let alive = c.requires.can.0 in
    let here = c.requires.can.2 in
    let count : length es ≡ length (answers_of es) = sym (length-map es (λ (x : Entry). x.answer)) in
    let stands = c.ask-request.ensures.stands self.setup.program (answers_of es) (stands_all self.setup.program own es c.args.sub.now c.requires.at alive here) in
    let from : c.from.result ≡ length es = c.from.ensures ∙ c.len-moment.ensures in
    let g = ledger (setup_of self) es in
    let dated = lawful_dated (setup_of self) g e.request e.answer c.answer-answer.ensures in
    put_added self.setup.program c.add.new.self.setup.program self.parts c.add.new.self.parts c.take_one.new.parts c.args.side es c.add.new.self.log.record.entries e c.take.new.self
    (ap (λ p. p.program) c.add.ensures.setup)
    (ap (λ l. l.entries) c.add.ensures.log)
    c.add.ensures.parts
    c.take_one.ensures
    (took self.setup.program own es (es ++ e ∷ []) e c.ask-request.new.self c.take.new.self c.ask-request.result alive c.requires.can.1
    (c.ask-request.ensures.lives ∙ c.requires.at.lives) c.ask-request.ensures.waits refl
    (take_added es (own_place own) e here) c.take.ensures.lives c.take.ensures.going
    (c.take.ensures.stands self.setup.program (answers_of es) (from ∙ count) (subst (λ n. is_dated n e.answer ≡ true) (moment_is (setup_of self) es ∙ sym from) dated) stands))

pub take_one-requires : goal.take_one-requires
take_one-requires c =
    let self = c.args.self.now in
    let place = ap (λ q. own_place (of_side q c.args.side)) c.add.ensures.parts in
    omega (arith, place, c.requires.can.2, c.requires.kept.few, c.requires.kept.plan.end_high)
