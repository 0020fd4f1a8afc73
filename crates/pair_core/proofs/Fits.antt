-- The lawful answer fits its request, and so the CPU takes it.
use Rattle.std.proofs.Common.{◌≡◌, ◌∙◌, ℕ, Bool, true, false, Option, Some, None, List, [], ◌∷◌, refl, ap, sym, subst, arith}
use Rattle.std.specs.Prelude.{◌&&◌, ◌||◌, ◌==◌, not, nat_lt, nat_le}
use Rattle.s7_events.specs.Fitting.{fits, is_job}
use Rattle.s7_events.specs.Priorities.{is_alarm, priority_of}
use Rattle.s7_events.specs.declared.entry.Ask.{Ask}
use Rattle.s7_events.specs.declared.entry.Ask.TheVariants as asks
use Rattle.s7_events.specs.declared.entry.Request.{Request}
use Rattle.s7_events.specs.declared.entry.Job.{Job}
use Rattle.s7_events.specs.declared.entry.Answer.{Answer}
use Rattle.s7_events.specs.declared.entry.Answer.TheVariants as answers
use Rattle.mc_machine.specs.Meaning.{takes, request_of}
use Rattle.plant_script.specs.Plan.{IsPlan}
use Rattle.plant_io.specs.Inputs.{takes_output}
use Rattle.plant_io.proofs.Bytes.{AreBytes, IsRead, read_is, read_fits}
use Rattle.alarm_queue.specs.declared.alarm.DueAlarm.{DueAlarm}
use Rattle.alarm_queue.specs.Waiting.{first_above}
use Rattle.pair_core.specs.Setup.{Setup}
use Rattle.pair_core.specs.Ledger.{Ledger}
use Rattle.pair_core.specs.Jobs.{jobs_of, next_job}
use Rattle.pair_core.specs.Lawful.{plain_answer, job_for, MayAnswer}
use Rattle.pair_core.specs.PlantInputs.{answer_read, answer_written}
use Rattle.pair_core.proofs.Answers.{answer_any, given, read_at, image_at}
use Rattle.pair_core.proofs.JobForms.{next_fits}
use Rattle.pair_core.proofs.Waiting.{IsFit, AreFit, IsFine, GoesFirst, goes_first}

read_fits_by : (addr width prio : ℕ) (o : Option ℕ) (answer : Answer) → ((value : ℕ) → o ≡ Some value → IsRead width value) → Some (answer_read o) ≡ Some answer
    → fits (request_of (asks.ReadP addr width) prio) answer ≡ true
read_fits_by addr width prio None answer read e = given (λ a. fits (request_of (asks.ReadP addr width) prio) a ≡ true) answers.NoModule answer e refl
read_fits_by addr width prio (Some value) answer read e =
    given (λ a. fits (request_of (asks.ReadP addr width) prio) a ≡ true) (answers.Value value) answer e (read_fits width value (read value refl))

written_fits : (addr width value prio : ℕ) (b : Bool) (answer : Answer) → Some (answer_written b) ≡ Some answer → fits (request_of (asks.WriteP addr width value) prio) answer ≡ true
written_fits addr width value prio true answer e = given (λ a. fits (request_of (asks.WriteP addr width value) prio) a ≡ true) answers.Done answer e refl
written_fits addr width value prio false answer e = given (λ a. fits (request_of (asks.WriteP addr width value) prio) a ≡ true) answers.NoModule answer e refl

plain_fits : (p : Setup) (g : Ledger) (prio : ℕ) (ask : Ask) (answer : Answer) → IsPlan p.plan → AreBytes g.inputs → plain_answer p g ask ≡ Some answer
    → fits (request_of ask prio) answer ≡ true
plain_fits p g prio (asks.Outputs image) answer fine small e = given (λ a. fits (request_of (asks.Outputs image) prio) a ≡ true) answers.Done answer e refl
plain_fits p g prio asks.Inputs answer fine small e = given (λ a. fits (request_of asks.Inputs prio) a ≡ true) (answers.Image (image_at p g)) answer e refl
plain_fits p g prio asks.Cycle answer fine small e = given (λ a. fits (request_of asks.Cycle prio) a ≡ true) answers.Go answer e refl
plain_fits p g prio asks.Now answer fine small e = given (λ a. fits (request_of asks.Now prio) a ≡ true) (answers.Now g.moment) answer e refl
plain_fits p g prio asks.Tick answer fine small e = given (λ a. fits (request_of asks.Tick prio) a ≡ true) answers.Done answer e refl
plain_fits p g prio asks.Retrigger answer fine small e = given (λ a. fits (request_of asks.Retrigger prio) a ≡ true) answers.Done answer e refl
plain_fits p g prio (asks.Reply value) answer fine small e = given (λ a. fits (request_of (asks.Reply value) prio) a ≡ true) answers.Done answer e refl
plain_fits p g prio (asks.Stop code) answer fine small e = given (λ a. fits (request_of (asks.Stop code) prio) a ≡ true) answers.Done answer e refl
plain_fits p g prio (asks.ReadP addr width) answer fine small e =
    read_fits_by addr width prio (read_at p g addr width) answer (λ value is. read_is p.plan g.standing.running.a g.standing.running.b g.inputs g.moment addr width value fine small is) e
plain_fits p g prio (asks.WriteP addr width value) answer fine small e =
    written_fits addr width value prio (takes_output p.plan g.standing.running.a g.standing.running.b addr width) answer e

all_three : (a b c : Bool) → a ≡ true → b ≡ true → c ≡ true → (a && b && c) ≡ true
all_three true true true ha hb hc = refl
all_three false b c ha hb hc = absurd cc
all_three true false c ha hb hc = absurd cc
all_three true true false ha hb hc = absurd cc

fit_fits : (request : Request) (x : DueAlarm) → IsFit x → nat_lt request.prio x.priority ≡ true → fits request (answers.Alarm x.ob x.info) ≡ true
fit_fits request x fit above =
    all_three (is_alarm x.ob) (nat_lt request.prio (priority_of x.ob)) (not (x.ob == 70) || nat_le x.info 65535)
    fit.block (subst (λ n. nat_lt request.prio n ≡ true) fit.priority above) fit.info

alarm_fits : (request : Request) (xs : List DueAlarm) (alarm : ℕ × ℕ) → AreFit xs → GoesFirst request.prio xs alarm → fits request (answers.Alarm alarm.0 alarm.1) ≡ true
alarm_fits request xs alarm h first =
    let each = subst AreFit first.is h in
    subst (λ (a : ℕ × ℕ). fits request (answers.Alarm a.0 a.1) ≡ true) first.same (fit_fits request first.first (each.each 0 first.first (omega arith)) first.above)

cycle_job : (prio : ℕ) (job : Job) → is_job job ≡ true → fits (request_of asks.Cycle prio) (answers.Job job) ≡ true
cycle_job prio job h = h

job_by : (p : Setup) (g : Ledger) (prio : ℕ) (ask : Ask) (job : Job) → IsPlan p.plan → job_for p g ask ≡ Some job → fits (request_of ask prio) (answers.Job job) ≡ true
job_by p g prio asks.Cycle job fine is = cycle_job prio job (next_fits p.plan g.jobs g.moment job fine is)
job_by p g prio (asks.Outputs image) job fine is = absurd cc
job_by p g prio asks.Inputs job fine is = absurd cc
job_by p g prio asks.Now job fine is = absurd cc
job_by p g prio asks.Tick job fine is = absurd cc
job_by p g prio asks.Retrigger job fine is = absurd cc
job_by p g prio (asks.Reply value) job fine is = absurd cc
job_by p g prio (asks.Stop code) job fine is = absurd cc
job_by p g prio (asks.ReadP addr width) job fine is = absurd cc
job_by p g prio (asks.WriteP addr width value) job fine is = absurd cc

-- a lawful answer fits its request, where the alarms that wait are such that may be answers, and the inputs are of bytes
pub lawful_fits : (p : Setup) (g : Ledger) (request : Request) (answer : Answer) → IsPlan p.plan → IsFine g → MayAnswer p g request answer → fits request answer ≡ true
lawful_fits p g request answer fine h may =
    answer_any (λ a. fits request a ≡ true) p g request answer may (λ t. refl) refl
    (λ x first. alarm_fits request g.waiting x h.waiting (goes_first request.prio g.waiting x first))
    (λ j none next. job_by p g request.prio request.ask j fine next)
    (λ a none is. plain_fits p g request.prio request.ask a fine h.inputs is)

-- a lawful answer is one that the CPU takes
pub lawful_takes : (p : Setup) (g : Ledger) (request : Request) (answer : Answer) → IsPlan p.plan → IsFine g → MayAnswer p g request answer → takes request answer ≡ true
lawful_takes p g request answer fine h may = lawful_fits p g request answer fine h may
