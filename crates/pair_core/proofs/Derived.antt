-- What waits and which jobs are left, at first and once one more entry stands.
use Rattle.std.proofs.Common.{◌≡◌, ◌∙◌, ℕ, ◌+◌, ◌≤◌, ◌<◌, List, [], ◌∷◌, ◌++◌, length, refl, ap, sym, subst, arith, length-append, Option, Some, None}
use Rattle.std.specs.Prelude.{map}
use Rattle.s7_events.specs.declared.entry.Request.{Request}
use Rattle.s7_events.specs.declared.entry.Answer.{Answer}
use Rattle.s7_events.specs.declared.entry.Answer.TheVariants as answers
use Rattle.s7_events.specs.declared.entry.Entry.{Entry}
use Rattle.s7_base.specs.Blocks.{Program}
use Rattle.alarm_queue.specs.declared.alarm.DueAlarm.{DueAlarm}
use Rattle.alarm_queue.specs.Order.{add_all}
use Rattle.alarm_queue.specs.Due.{Schedule, schedule_of, due_at}
use Rattle.alarm_queue.specs.Waiting.{waiting_after, first_above}
use Rattle.alarm_queue.specs.Waiting as alarms
use Rattle.pair_core.specs.Setup.{Setup}
use Rattle.plant_script.specs.declared.plan.Module.{Module}
use Rattle.plant_io.specs.PairValue.{PairState}
use Rattle.plant_io.specs.Inputs.{stepped, InputsKept, AreStates}
use Rattle.pair_core.specs.declared.standing.Standing.{Standing}
use Rattle.pair_core.specs.Sides.{after_answer}
use Rattle.pair_core.specs.PlantInputs.{readers, first_inputs}
use Rattle.pair_core.specs.Waits.{schedule, discrepancy_due, due_by_pair, waits_after, MayLeave}
use Rattle.pair_core.specs.Jobs.{jobs_of, jobs_by, JobsKept}
use Rattle.pair_core.specs.Ledger.{Ledger, ledger, after}
use Rattle.pair_core.specs.Lawful.{MayAnswer}
use Rattle.pair_core.specs.Kept.{AreWaits, AreJobs, AreInputs}
use Rattle.pair_core.proofs.Answers.{answer_any, plain_any}
use Rattle.pair_core.proofs.Snoc.{ledger_added, moment_is}
use Rattle.pair_core.proofs.Waiting.{GoesFirst, goes_first}

-- one more entry ----------------------------------------------------------------------

ledger_is : (p : Setup) (es all : List Entry) (e : Entry) → all ≡ es ++ e ∷ [] → ledger p all ≡ after p (ledger p es) e
ledger_is p es all e is = ap (λ l. ledger p l) is ∙ ledger_added p es e

one_longer : (es all : List Entry) (e : Entry) → all ≡ es ++ e ∷ [] → length all ≡ length es + 1
one_longer es all e is = ap (λ (l : List Entry). length l) is ∙ length-append es (e ∷ [])

waits_by : (p : Setup) (s : Schedule) (k m : ℕ) (watch next : Option ℕ) (inputs : Module → PairState) (a : Answer) (xs ys : List DueAlarm) → s ≡ schedule p → k ≡ m → watch ≡ next → xs ≡ ys
    → waiting_after s k a (due_by_pair p.program p.plan watch inputs (k + 1) a) xs ≡ waits_after p m next inputs a ys
unfolding waits_after
waits_by p s k m watch next inputs a xs ys es ek ew ex = rw (es, ek, ew, ex) refl

pub added_waits : (p : Setup) (es all : List Entry) (e : Entry) (old new : alarms.State) (k : ℕ) (watch : Option ℕ) → all ≡ es ++ e ∷ [] → k ≡ length es
    → watch ≡ (after p (ledger p es) e).watch → AreWaits p es old
    → new.waiting ≡ waiting_after old.schedule k e.answer (due_by_pair p.program p.plan watch (after p (ledger p es) e).inputs (k + 1) e.answer) old.waiting
    → new.schedule ≡ old.schedule → new.moment ≡ k + 2 → old.redundancy_left ≤ new.redundancy_left + 1 → AreWaits p all new
added_waits p es all e old new k watch is here on h waiting same moment left = record {
  schedule = same ∙ h.schedule;
  waiting = waiting ∙ waits_by p old.schedule k (ledger p es).moment watch (after p (ledger p es) e).watch (after p (ledger p es) e).inputs e.answer old.waiting (ledger p es).waiting h.schedule (here ∙ sym (moment_is p es)) on h.waiting
      ∙ sym (ap (λ (g : Ledger). g.waiting) (ledger_is p es all e is));
  moment = omega (arith, moment, here, one_longer es all e is);
  left = omega (arith, left, h.left, one_longer es all e is);
}

pub added_jobs : (p : Setup) (es all : List Entry) (e : Entry) (old new : JobsKept) → all ≡ es ++ e ∷ [] → AreJobs p es old
    → new ≡ record old { answered = jobs_by e.answer old.answered } → AreJobs p all new
added_jobs p es all e old new is h noted = record {
  list = ap (λ (j : JobsKept). j.list) noted ∙ h.list;
  answered = ap (λ (j : JobsKept). j.answered) noted ∙ ap (jobs_by e.answer) h.answered ∙ sym (ap (λ (g : Ledger). g.jobs) (ledger_is p es all e is));
}

some_waits : (priority : ℕ) (xs : List DueAlarm) (x : ℕ × ℕ) → first_above priority xs ≡ Some x → 0 < length xs
some_waits priority xs x is = let first = goes_first priority xs x is in let n = ap (λ (l : List DueAlarm). length l) first.is in omega (arith, n)

-- a lawful entry answers an alarm only where one waits
pub may_leave : (p : Setup) (g : Ledger) (request : Request) (answer : Answer) → MayAnswer p g request answer → MayLeave answer g.waiting
may_leave p g request answer may =
    answer_any (λ a. MayLeave a g.waiting) p g request answer may (λ t. tt) tt (some_waits request.prio g.waiting) (λ j none next. tt)
    (λ a none is. plain_any (λ x. MayLeave x g.waiting) p g request.ask a is tt tt tt tt tt (λ addr width value read. tt))

-- the lines of the modules are those of the script
pub lines_are : (p : Setup) (es : List Entry) (kept : alarms.State) → AreWaits p es kept → kept.schedule.modules ≡ map (λ (m : Module). m.line) p.plan.modules
unfolding schedule
lines_are p es kept h = ap (λ (s : Schedule). s.modules) h.schedule

-- the inputs after the moment that follows the entry
pub stepped_inputs : (p : Setup) (es : List Entry) (e : Entry) (st : Standing) (at : ℕ) (new : InputsKept) → st ≡ after_answer (ledger p es).standing e.answer
    → at ≡ length es + 1 → AreStates p.plan.modules (stepped p.plan (readers st) at (ledger p es).inputs) new.states
    → AreStates p.plan.modules (after p (ledger p es) e).inputs new.states
stepped_inputs p es e st at new on here h =
    let g = ledger p es in
    let moments : at ≡ g.moment + 1 = omega (arith, here, moment_is p es) in
    let same : stepped p.plan (readers st) at g.inputs ≡ (after p g e).inputs =
    ap (λ (s : Standing). stepped p.plan (readers s) at g.inputs) on ∙ ap (λ n. stepped p.plan (readers (after_answer g.standing e.answer)) n g.inputs) moments in
    subst (λ (f : Module → PairState). AreStates p.plan.modules f new.states) same h

pub added_inputs : (p : Setup) (es all : List Entry) (e : Entry) (new : InputsKept) (at : ℕ) → all ≡ es ++ e ∷ [] → at ≡ length es + 1
    → AreStates p.plan.modules (after p (ledger p es) e).inputs new.states → new.moment ≡ at + 1 → AreInputs p all new
added_inputs p es all e new at is here h moment = record {
  states = subst (λ (g : Ledger). AreStates p.plan.modules g.inputs new.states) (sym (ledger_is p es all e is)) h;
  moment = omega (arith, moment, here, one_longer es all e is);
}

-- before any entry ----------------------------------------------------------------------

pub first_waits : (p : Setup) (blocks : Program) (es : List Entry) (old due new : alarms.State) → p.program ≡ blocks → es ≡ []
    → old ≡ record { schedule = schedule_of p.plan blocks; waiting = []; moment = 0; redundancy_left = p.plan.end }
    → due ≡ record old { waiting = add_all (due_at old.schedule 0) old.waiting; moment = 0 + 1 }
    → new.waiting ≡ add_all (discrepancy_due p.plan (first_inputs p.plan p.solo) 0) due.waiting → new.schedule ≡ due.schedule → new.moment ≡ due.moment
    → new.redundancy_left ≡ due.redundancy_left → AreWaits p es new
unfolding schedule
first_waits p blocks es old due new same none begun is waiting schedules moments left = record {
  schedule = schedules ∙ ap (λ (s : alarms.State). s.schedule) is ∙ ap (λ (s : alarms.State). s.schedule) begun ∙ ap (λ program. schedule_of p.plan program) (sym same);
  waiting = waiting ∙ ap (add_all (discrepancy_due p.plan (first_inputs p.plan p.solo) 0))
      (ap (λ (s : alarms.State). s.waiting) is ∙ ap (λ (s : alarms.State). add_all (due_at s.schedule 0) s.waiting) begun
      ∙ ap (λ program. add_all (due_at (schedule_of p.plan program) 0) []) (sym same)) ∙ sym (ap (λ l. (ledger p l).waiting) none);
  moment = moments ∙ ap (λ (s : alarms.State). s.moment) is ∙ sym (ap (λ (l : List Entry). length l + 1) none);
  left = omega (arith, left, ap (λ (s : alarms.State). s.redundancy_left) is, ap (λ (s : alarms.State). s.redundancy_left) begun);
}

pub begun_lines : (p : Setup) (blocks : Program) (old due : alarms.State) → old ≡ record { schedule = schedule_of p.plan blocks; waiting = []; moment = 0; redundancy_left = p.plan.end }
    → due ≡ record old { waiting = add_all (due_at old.schedule 0) old.waiting; moment = 0 + 1 } → due.schedule.modules ≡ map (λ (m : Module). m.line) p.plan.modules
begun_lines p blocks old due begun is = ap (λ (s : alarms.State). s.schedule.modules) is ∙ ap (λ (s : alarms.State). s.schedule.modules) begun

pub begun_inputs : (p : Setup) (es : List Entry) (inputs : InputsKept) → es ≡ [] → AreStates p.plan.modules (first_inputs p.plan p.solo) inputs.states → inputs.moment ≡ 0 + 1 → AreInputs p es inputs
begun_inputs p es inputs none h moment = record {
  states = subst (λ (l : List Entry). AreStates p.plan.modules (ledger p l).inputs inputs.states) (sym none) h;
  moment = moment ∙ sym (ap (λ (l : List Entry). length l + 1) none);
}

pub first_jobs : (p : Setup) (es : List Entry) (jobs : JobsKept) → es ≡ [] → jobs ≡ record { list = jobs_of p.plan; answered = 0 } → AreJobs p es jobs
first_jobs p es jobs none is = record {
  list = ap (λ (j : JobsKept). j.list) is;
  answered = ap (λ (j : JobsKept). j.answered) is ∙ sym (ap (λ l. (ledger p l).jobs) none);
}
