-- Each alarm and each job is answered once at most.
use Rattle.std.proofs.Common.{◌≡◌, ◌∙◌, ℕ, ◌+◌, ◌≤◌, Bool, true, false, List, [], ◌∷◌, ◌++◌, refl, ap, sym, subst, arith, Option, Some, None}
use Rattle.std.specs.Prelude.{if◌then◌else◌, ◌==◌, ◌&&◌, nat_lt, map, All}
use Rattle.std.proofs.lemmas.Bool.Decides.{nat_tests}
use Rattle.s7_events.specs.declared.entry.Job.{Job}
use Rattle.s7_events.specs.declared.entry.Request.{Request}
use Rattle.s7_events.specs.declared.entry.Answer.{Answer}
use Rattle.s7_events.specs.declared.entry.Answer.TheVariants as answers
use Rattle.s7_events.specs.declared.entry.Entry.{Entry}
use Rattle.s7_base.specs.Blocks.{Program}
use Rattle.plant_script.specs.Plan.{Plan, IsPlan}
use Rattle.plant_script.specs.declared.plan.Module.{Module}
use Rattle.plant_io.specs.PairValue.{PairState}
use Rattle.plant_io.specs.Inputs.{modules_due}
use Rattle.alarm_queue.specs.declared.alarm.DueAlarm.{DueAlarm}
use Rattle.alarm_queue.specs.declared.alarm.Source.TheVariants.{Cpu}
use Rattle.alarm_queue.specs.Order.{due_alarm}
use Rattle.alarm_queue.specs.Due.{redundancy_by, redundancy_info, is_loaded}
use Rattle.alarm_queue.specs.Waiting.{first_above, first_of}
use Rattle.alarm_queue.specs.Laws.{Step, AreOfPair, StepsAreOfPair, count_answered, times_answered_from}
use Rattle.alarm_queue.proofs.Once as alarms
use Rattle.pair_core.specs.Setup.{Setup, made_for}
use Rattle.pair_core.specs.Monitor.{answers_overdue, ends_monitoring}
use Rattle.pair_core.specs.PlantInputs.{first_inputs}
use Rattle.pair_core.specs.Waits.{schedule, overdue_due, discrepancy_at, discrepancy_due, due_by_pair, waits_after}
use Rattle.pair_core.specs.Jobs.{jobs_of, next_job, jobs_by}
use Rattle.pair_core.specs.Ledger.{Ledger, first_ledger, after}
use Rattle.pair_core.specs.Lawful.{plain_answer, MayAnswer, LawfulFrom}
use Rattle.pair_core.specs.AnsweredOnce.{times_alarm_from, times_alarm, count_job, times_job_from, times_job, AnswersFirst, precedes_alarms, StandsInOrder, StandInOrderFrom, AnsweredOnce}
use Rattle.pair_core.proofs.Answers.{answer_any, plain_any}
use Rattle.pair_core.proofs.JobForms.{job_next}
use Rattle.pair_core.proofs.Waiting.{AreFit, GoesFirst, goes_first, none_above, after_fit, first_fit}

-- alarms ------------------------------------------------------------------------------

-- the entries, as steps of what waits
abbrev steps_from : Setup → Ledger → List Entry → List Step
steps_from p g [] = []
steps_from p g (e ∷ es) =
    record { answer = e.answer; by_pair = due_by_pair p.program p.plan (after p g e).watch (after p g e).inputs (g.moment + 1) e.answer } ∷ steps_from p (after p g e) es

same_times : (p : Setup) (g : Ledger) (n : ℕ) (es : List Entry) → times_alarm_from p g n es ≡ times_answered_from (schedule p) n g.moment g.waiting (steps_from p g es)
unfolding waits_after
same_times p g n [] = refl
same_times p g n (e ∷ es) = ap (λ m. count_answered n e.answer g.waiting + m) (same_times p (after p g e) n es)

one_pair : (x : DueAlarm) (b : Bool) → AreOfPair (x ∷ []) → AreOfPair (if b then x ∷ [] else [])
one_pair x true h = h
one_pair x false h = tt

both_pair : (xs ys : List DueAlarm) → AreOfPair xs → AreOfPair ys → AreOfPair (xs ++ ys)
both_pair [] ys h k = k
both_pair (x ∷ xs) ys h k = (h.0, both_pair xs ys h.1 k)

redundancy_pair : (k : ℕ) (loaded : Bool) (o : Option ℕ) → AreOfPair (redundancy_by loaded k o)
redundancy_pair k loaded None = tt
redundancy_pair k loaded (Some info) = one_pair (due_alarm 72 k Cpu info) loaded ((λ n. refl), tt)

modules_pair : (k : ℕ) (ms : List Module) → AreOfPair (map (discrepancy_at k) ms)
modules_pair k [] = tt
modules_pair k (m ∷ ms) = ((λ n. refl), modules_pair k ms)

discrepancy_pair : (plan : Plan) (inputs : Module → PairState) (k : ℕ) → AreOfPair (discrepancy_due plan inputs k)
discrepancy_pair plan inputs k = modules_pair k (modules_due plan inputs)

by_pair : (program : Program) (plan : Plan) (watch : Option ℕ) (inputs : Module → PairState) (k : ℕ) (a : Answer) → AreOfPair (due_by_pair program plan watch inputs k a)
unfolding due_by_pair
by_pair program plan watch inputs k a =
    both_pair (overdue_due program watch k) (discrepancy_due plan inputs k ++ redundancy_by (is_loaded program 72) k (redundancy_info a))
    (one_pair (due_alarm 80 k Cpu 0) (ends_monitoring watch k && answers_overdue program) ((λ n. refl), tt))
    (both_pair (discrepancy_due plan inputs k) (redundancy_by (is_loaded program 72) k (redundancy_info a))
    (discrepancy_pair plan inputs k) (redundancy_pair k (is_loaded program 72) (redundancy_info a)))

steps_pair : (p : Setup) (g : Ledger) (es : List Entry) → StepsAreOfPair (steps_from p g es)
steps_pair p g [] = tt
steps_pair p g (e ∷ es) = (by_pair p.program p.plan (after p g e).watch (after p g e).inputs (g.moment + 1) e.answer, steps_pair p (after p g e) es)

alarm_once : (p : Setup) (n : ℕ) (es : List Entry) → IsPlan p.plan → times_alarm p n es ≤ 1
unfolding schedule
alarm_once p n es fine =
    let first = discrepancy_due p.plan (first_inputs p.plan p.solo) 0 in
    let once = alarms.answered_once p.plan p.program first (steps_from p (first_ledger p) es) fine.events.lines
    (discrepancy_pair p.plan (first_inputs p.plan p.solo) 0) (steps_pair p (first_ledger p) es) n in
    omega (arith, once, same_times p (first_ledger p) n es)

-- jobs --------------------------------------------------------------------------------

count_by : (n answered : ℕ) (b : Bool) → (answered == n) ≡ b → (if b then 1 else 0) + (if nat_lt n (answered + 1) then 0 else 1) ≤ (if nat_lt n answered then 0 else 1)
count_by n answered b is = grind (arith, nat_tests)

-- what is answered is no longer to be answered
count_left : (n answered : ℕ) (a : Answer) → count_job n answered a + (if nat_lt n (jobs_by a answered) then 0 else 1) ≤ (if nat_lt n answered then 0 else 1)
count_left n answered (answers.Job job) = count_by n answered (answered == n) refl
count_left n answered _ = omega arith

job_from : (p : Setup) (g : Ledger) (n : ℕ) (es : List Entry) → times_job_from p g n es ≤ (if nat_lt n g.jobs then 0 else 1)
job_from p g n [] = omega arith
job_from p g n (e ∷ es) = omega (arith, job_from p (after p g e) n es, count_left n g.jobs e.answer)

at_first : (n m : ℕ) → m ≤ (if nat_lt n 0 then 0 else 1) → m ≤ 1
at_first n m h = grind (arith, nat_tests)

job_once : (p : Setup) (n : ℕ) (es : List Entry) → times_job p n es ≤ 1
job_once p n es = at_first n (times_job p n es) (job_from p (first_ledger p) n es)

-- what comes first ----------------------------------------------------------------------

-- what holds of the entry, of its answer alone
abbrev InOrderBy : Setup → Ledger → ℕ → Answer → Type 0
InOrderBy p g prio a = AnswersFirst p g a × (precedes_alarms a ≡ false → All (λ alarm. alarm.priority ≤ prio) g.waiting)

first_alarm : (p : Setup) (g : Ledger) (prio : ℕ) (x : ℕ × ℕ) → first_above prio g.waiting ≡ Some x → InOrderBy p g prio (answers.Alarm x.0 x.1)
first_alarm p g prio x is =
    let first = goes_first prio g.waiting x is in
    (ap first_of first.is ∙ ap (λ (a : ℕ × ℕ). Some a) first.same, λ no_rule. absurd cc)

order_by : (p : Setup) (g : Ledger) (request : Request) (a : Answer) → AreFit g.waiting → MayAnswer p g request a → InOrderBy p g request.prio a
order_by p g request a fit may =
    answer_any (InOrderBy p g request.prio) p g request a may (λ t. (tt, λ no_rule. absurd cc)) (tt, λ no_rule. absurd cc)
    (first_alarm p g request.prio)
    (λ j none next. (job_next p g request.ask j next, λ after_all. none_above request.prio g.waiting fit.order none))
    (λ x none is.
    let all = none_above request.prio g.waiting fit.order none in
    plain_any (InOrderBy p g request.prio) p g request.ask x is (tt, λ h. all) (tt, λ h. all) (tt, λ h. all) (tt, λ h. all) (tt, λ h. all) (λ addr width value read. (tt, λ h. all))
    )

order_from : (p : Setup) (g : Ledger) (es : List Entry) → IsPlan p.plan → AreFit g.waiting → LawfulFrom p g es → StandInOrderFrom p g es
order_from p g [] fine fit h = tt
order_from p g (e ∷ es) fine fit h =
    let by = order_by p g e.request e.answer fit h.0.answer in
    (record { first = by.0; none_above = by.1 }, order_from p (after p g e) es fine (after_fit p fine g.moment (after p g e).watch (after p g e).inputs e.answer g.waiting fit) h.1)

pub answered_once : (program : Program) (plan : Plan) (solo : Bool) (es : List Entry) → AnsweredOnce program plan solo es
answered_once program plan solo es = λ fine lawful.
    let p = made_for program plan solo in
    ((λ n. alarm_once p n es fine), (λ n. job_once p n es), order_from p (first_ledger p) es fine (first_fit p fine) lawful)
