-- The jobs of a script have their form, and none is answered that is not counted.
use Rattle.std.proofs.Common.{◌≡◌, ℕ, zero, suc, ◌+◌, ◌*◌, ◌^◌, ◌≤◌, ◌<◌, Bool, true, false, List, [], ◌∷◌, length, refl, subst, sym, arith, Option, Some, None, slice_get, inl, inr}
use Rattle.std.specs.Prelude.{if◌then◌else◌, ◌==◌, ◌&&◌, ◌||◌, ◌⊎◌, nat_le, nat_lt, All}
use Rattle.std.specs.List.{filter_map, cons_option}
use Rattle.std.proofs.lemmas.Bool.Decides.{nat_tests}
use Rattle.std.proofs.lemmas.List.Elements.{All-tail}
use Rattle.std.proofs.lemmas.Option.{slice_get_within, get_or_from_slice_get}
use Rattle.s7_events.specs.Fitting.{has_width, is_job}
use Rattle.s7_events.specs.declared.entry.Ask.{Ask}
use Rattle.s7_events.specs.declared.entry.Ask.TheVariants as asks
use Rattle.s7_events.specs.declared.entry.Job.{Job}
use Rattle.s7_events.specs.declared.entry.Answer.{Answer}
use Rattle.s7_events.specs.declared.entry.Answer.TheVariants as answers
use Rattle.s7_events.specs.declared.entry.Entry.{Entry}
use Rattle.plant_script.specs.declared.plan.Event.{Event}
use Rattle.plant_script.specs.declared.plan.What.{What}
use Rattle.plant_script.specs.declared.plan.What.TheVariants as events
use Rattle.plant_script.specs.Form.{IsWidth, IsJobForm, IsWritten}
use Rattle.plant_script.specs.Plan.{Plan, IsPlan}
use Rattle.pair_core.specs.declared.jobs.DueJob.{DueJob}
use Rattle.pair_core.specs.Setup.{Setup}
use Rattle.pair_core.specs.Jobs.{job_by, job_of, jobs_of, job_if_due, next_job, jobs_by}
use Rattle.pair_core.specs.Ledger.{Ledger, first_ledger, after, ledger_from, ledger}
use Rattle.pair_core.specs.Lawful.{job_for}

-- that they fit -----------------------------------------------------------------------

width_is : (w : ℕ) → (w == 1 || w == 2 || w == 4) ≡ true → (w ≡ 1) ⊎ ((w ≡ 2) ⊎ (w ≡ 4))
width_is w h = grind (arith, nat_tests)

below_one : (v : ℕ) → v < 16 ^ (2 * 1) → has_width v 1 ≡ true
below_one v h = grind (arith, nat_tests)

below_two : (v : ℕ) → v < 16 ^ (2 * 2) → has_width v 2 ≡ true
below_two v h = grind (arith, nat_tests)

below_four : (v : ℕ) → v < 16 ^ (2 * 4) → has_width v 4 ≡ true
below_four v h = grind (arith, nat_tests)

below : (v w : ℕ) → (w == 1 || w == 2 || w == 4) ≡ true → v < 16 ^ (2 * w) → has_width v w ≡ true
below v w h less =
    elim (width_is w h) [
      | inl one ↦ subst (λ n. has_width v n ≡ true) (sym one) (below_one v (subst (λ n. v < 16 ^ (2 * n)) one less))
      | inr more ↦ elim more [
        | inl two ↦ subst (λ n. has_width v n ≡ true) (sym two) (below_two v (subst (λ n. v < 16 ^ (2 * n)) two less))
        | inr four ↦ subst (λ n. has_width v n ≡ true) (sym four) (below_four v (subst (λ n. v < 16 ^ (2 * n)) four less))
      ]
    ]

read_none : (write : Bool) (v : ℕ) → (write ≡ false → v ≡ 0) → (write || v == 0) ≡ true
read_none true v h = refl
read_none false v h = let none : v ≡ 0 = h refl in rw none

all_three : (a b c : Bool) → a ≡ true → b ≡ true → c ≡ true → (a && b && c) ≡ true
all_three true true true ha hb hc = refl
all_three false b c ha hb hc = absurd cc
all_three true false c ha hb hc = absurd cc
all_three true true false ha hb hc = absurd cc

pub job_fits : (job : Job) → IsJobForm job → is_job job ≡ true
job_fits job form =
    all_three (job.width == 1 || job.width == 2 || job.width == 4) (has_width job.value job.width) (job.write || job.value == 0)
    form.width (below job.value job.width form.width form.value) (read_none job.write job.value form.read)

abbrev IfForm : Option DueJob → Type 0
IfForm None = Unit {0}
IfForm (Some next) = IsJobForm next.job

what_form : (moment : ℕ) (what : What) → IsWritten what → IfForm (job_by moment what)
what_form moment (events.Job job) h = h
what_form moment (events.Input at_byte side value) h = tt
what_form moment (events.Alarm ob info) h = tt
what_form moment (events.Fail side late) h = tt
what_form moment (events.Return side fresh) h = tt
what_form moment (events.Suspect side pass) h = tt

abbrev AreForms : List DueJob → Type 0
AreForms [] = Unit {0}
AreForms (next ∷ jobs) = IsJobForm next.job × AreForms jobs

more_forms : (o : Option DueJob) (rest : List DueJob) → IfForm o → AreForms rest → AreForms (cons_option o rest)
more_forms None rest h forms = forms
more_forms (Some next) rest h forms = (h, forms)

forms_of : (list : List Event) → All (λ event. IsWritten event.what) list → AreForms (filter_map job_of list)
forms_of [] h = tt
forms_of (event ∷ rest) h =
    more_forms (job_of event) (filter_map job_of rest) (what_form event.moment event.what (h 0 event (omega arith)))
    (forms_of rest (All-tail (λ e. IsWritten e.what) event rest h))

form_at : (jobs : List DueJob) (n : ℕ) → AreForms jobs → IfForm (slice_get jobs n)
form_at [] n h = tt
form_at (next ∷ jobs) zero h = h.0
form_at (next ∷ jobs) (suc n) h = form_at jobs n h.1

form_if : (k : ℕ) (next : DueJob) (job : Job) (b : Bool) → IsJobForm next.job → (if b then Some next.job else None) ≡ Some job → IsJobForm job
form_if k next job true form is = let same : next.job ≡ job = cc in subst IsJobForm same form
form_if k next job false form is = absurd cc

form_by : (k : ℕ) (o : Option DueJob) (job : Job) → IfForm o → job_if_due k o ≡ Some job → IsJobForm job
form_by k None job form is = absurd cc
form_by k (Some next) job form is = form_if k next job (nat_le next.due k) form is

-- a job that is answered has its form, and fits
pub next_form : (plan : Plan) (n k : ℕ) (job : Job) → IsPlan plan → next_job (jobs_of plan) n k ≡ Some job → IsJobForm job
unfolding jobs_of
next_form plan n k job fine is =
    form_by k (slice_get (filter_map job_of plan.events) n) job (form_at (filter_map job_of plan.events) n (forms_of plan.events fine.events.form)) is

pub next_fits : (plan : Plan) (n k : ℕ) (job : Job) → IsPlan plan → next_job (jobs_of plan) n k ≡ Some job → is_job job ≡ true
next_fits plan n k job fine is = job_fits job (next_form plan n k job fine is)

-- it is answered where the next cycle may start
pub job_next : (p : Setup) (g : Ledger) (ask : Ask) (job : Job) → job_for p g ask ≡ Some job → next_job (jobs_of p.plan) g.jobs g.moment ≡ Some job
job_next p g asks.Cycle job is = is
job_next p g (asks.Outputs image) job is = absurd cc
job_next p g asks.Inputs job is = absurd cc
job_next p g asks.Now job is = absurd cc
job_next p g asks.Tick job is = absurd cc
job_next p g asks.Retrigger job is = absurd cc
job_next p g (asks.Reply value) job is = absurd cc
job_next p g (asks.Stop code) job is = absurd cc
job_next p g (asks.ReadP addr width) job is = absurd cc
job_next p g (asks.WriteP addr width value) job is = absurd cc

-- how many ----------------------------------------------------------------------------

by_one : (a : Answer) (n : ℕ) → jobs_by a n ≤ n + 1
by_one (answers.Job job) n = omega arith
by_one _ n = omega arith

few_from : (p : Setup) (g : Ledger) (es : List Entry) → (ledger_from p g es).jobs ≤ g.jobs + length es
few_from p g [] = omega arith
few_from p g (e ∷ es) = omega (arith, few_from p (after p g e) es, by_one e.answer g.jobs)

-- each was answered by an entry of its own
pub jobs_few : (p : Setup) (es : List Entry) → (ledger p es).jobs ≤ length es
jobs_few p es = omega (arith, few_from p (first_ledger p) es)
