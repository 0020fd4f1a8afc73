use Rattle.std.proofs.Common.{◌≡◌, [], ◌∷◌, ◌+◌, length, length-append, arith, ap, sym, subst, ◌∙◌}
use Rattle.pair_core.specs.CutsKept.{IsCutsAt}
use Rattle.pair_core.specs.Ledger.{Ledger, ledger, after}
use Rattle.pair_core.specs.Sides.{after_answer}
use Rattle.pair_core.proofs.Advances.{goes_on}
use Rattle.pair_core.specs.Monitor.{watch_by}
use Rattle.pair_core.specs.Kept.{setup_of}
use Rattle.pair_core.specs.Waits.{MayLeave}
use Rattle.plant_io.specs.Inputs.{AreStates}
use Rattle.pair_core.proofs.Derived.{added_waits, added_jobs, added_inputs, stepped_inputs, lines_are, may_leave}
use Rattle.pair_core.proofs.JobForms.{jobs_few}
use Rattle.pair_core.proofs.Snoc.{ledger_added, moment_is}
use Rattle.pair_core.proofs.state.State.add.Goals as goal

pub returns-clause-kept : goal.returns-clause-kept
returns-clause-kept c =
    let kept = c.requires.kept in
    let es = c.args.self.now.log.record.entries in
    let p = setup_of c.args.self.now in
    let e = c.args.entry in
    let led : ledger p c.append.new.self.entries ≡ after p (ledger p es) e = ap (λ l. ledger p l.entries) c.append.ensures ∙ ledger_added p es e in
    let states : AreStates p.plan.modules (after p (ledger p es) e).inputs c.read_moment.new.inputs.states =
    stepped_inputs p es e c.after-self.result (c.from.result + 1) c.read_moment.new.inputs (c.after-self.ensures ∙ ap (λ s. after_answer s e.answer) kept.derived.standing)
    (omega (arith, c.from.ensures, c.len-moment.ensures)) (c.read_moment.ensures.states (ledger p es).inputs kept.derived.inputs.states) in
    record {
      derived = record {
        standing = c.after-self.ensures ∙ ap (λ s. after_answer s e.answer) kept.derived.standing ∙ sym (ap (λ (g : Ledger). g.standing) led);
        watch = c.watch_by-self.ensures ∙ ap (λ n. watch_by c.args.self.now.derived.watch n e.request.ask e.answer) (c.len-moment.ensures ∙ sym (moment_is p es))
            ∙ ap (λ w. watch_by w (ledger p es).moment e.request.ask e.answer) kept.derived.watch ∙ sym (ap (λ (g : Ledger). g.watch) led);
        moment = moment_is p c.append.new.self.entries;
        past = kept.derived.past;
        inputs = added_inputs p es c.append.new.self.entries e c.read_moment.new.inputs (c.from.result + 1) (ap (λ l. l.entries) c.append.ensures) (omega (arith, c.from.ensures, c.len-moment.ensures)) states c.read_moment.ensures.moment;
        waits = added_waits p es c.append.new.self.entries e c.args.self.now.derived.waiting c.advance.new.waiting c.len-moment.result c.watch_by-self.result (ap (λ l. l.entries) c.append.ensures) c.len-moment.ensures
            (c.watch_by-self.ensures ∙ ap (λ n. watch_by c.args.self.now.derived.watch n e.request.ask e.answer) (c.len-moment.ensures ∙ sym (moment_is p es)) ∙ ap (λ w. watch_by w (ledger p es).moment e.request.ask e.answer) kept.derived.watch)
            kept.derived.waits (c.advance.ensures.waiting (after p (ledger p es) e).inputs states) c.advance.ensures.schedule c.advance.ensures.moment c.advance.ensures.left;
        jobs = added_jobs p es c.append.new.self.entries e c.args.self.now.derived.jobs c.note.new.self (ap (λ l. l.entries) c.append.ensures) kept.derived.jobs c.note.ensures;
        cuts = subst (λ k. IsCutsAt c.args.self.now.setup.script k c.advance-self.result) c.len.ensures c.advance-self.ensures;
      };
      few = omega (arith, ap (λ l. length l.entries) c.append.ensures, length-append es (c.args.entry ∷ []));
      plan = kept.plan;
      room = ap (λ l. l.room) c.append.ensures ∙ kept.room;
      shown_room = kept.shown_room;
    }

pub advance-self-requires : goal.advance-self-requires
advance-self-requires c =
    let es = c.args.self.now.log.record.entries in
    goes_on c.args.self.now.setup.script (length es) c.len.result c.args.self.now.derived.cuts (omega (arith, c.len.ensures, ap (λ l. length l.entries) c.append.ensures, length-append es (c.args.entry ∷ []))) c.requires.kept.derived.cuts

pub advance-requires-clause-leaves : goal.advance-requires-clause-leaves
advance-requires-clause-leaves c =
    let self = c.args.self.now in
    let e = c.args.entry in
    subst (MayLeave e.answer) (sym c.requires.kept.derived.waits.waiting)
    (may_leave (setup_of self) (ledger (setup_of self) self.log.record.entries) e.request e.answer c.requires.may)

pub note-requires : goal.note-requires
note-requires c =
    let self = c.args.self.now in
    omega (arith, c.requires.kept.derived.jobs.answered, jobs_few (setup_of self) self.log.record.entries, c.requires.kept.few, c.requires.kept.plan.end_high)

pub read_moment-requires-clause-size : goal.read_moment-requires-clause-size
read_moment-requires-clause-size c = c.requires.kept.derived.inputs.states.size

pub read_moment-requires-clause-moment : goal.read_moment-requires-clause-moment
read_moment-requires-clause-moment c = omega (arith, c.from.ensures, c.len-moment.ensures, c.requires.kept.derived.inputs.moment)

pub read_moment-requires-clause-next : goal.read_moment-requires-clause-next
read_moment-requires-clause-next c = omega (arith, c.from.ensures, c.len-moment.ensures, c.requires.kept.few, c.requires.kept.plan.end_high)

pub advance-requires-clause-size : goal.advance-requires-clause-size
advance-requires-clause-size c =
    (c.read_moment.ensures.states (ledger (setup_of c.args.self.now) c.args.self.now.log.record.entries).inputs c.requires.kept.derived.inputs.states).size

pub advance-requires-clause-lines : goal.advance-requires-clause-lines
advance-requires-clause-lines c =
    lines_are (setup_of c.args.self.now) c.args.self.now.log.record.entries c.args.self.now.derived.waiting c.requires.kept.derived.waits
