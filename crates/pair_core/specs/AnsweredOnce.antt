-- How often alarms and jobs are answered, and what stands where alarms wait.
use Rattle.std.specs.Prelude.{◌≡◌, ℕ, ◌+◌, ◌≤◌, ◌==◌, Bool, true, false, if◌then◌else◌, All, List, [], ◌∷◌, Some}
use Rattle.s7_events.specs.declared.entry.Answer.{Answer}
use Rattle.s7_events.specs.declared.entry.Answer.TheVariants.{Lost, CpuStop, Hold, Back, Alarm, Job}
use Rattle.s7_events.specs.declared.entry.Entry.{Entry}
use Rattle.s7_base.specs.Blocks.{Program}
use Rattle.plant_script.specs.Plan.{Plan, IsPlan}
use Rattle.alarm_queue.specs.Waiting.{first_of}
use Rattle.alarm_queue.specs.Laws.{count_answered}
use Rattle.pair_core.specs.Setup.{Setup, made_for}
use Rattle.pair_core.specs.Jobs.{jobs_of, next_job}
use Rattle.pair_core.specs.Ledger.{Ledger, first_ledger, after}
use Rattle.pair_core.specs.Lawful.{Lawful}

-- how often the ALARM line of this number is answered by the entries: an Alarm answers the first alarm that waits
abbrev pub times_alarm_from : Setup → Ledger → ℕ → List Entry → ℕ
times_alarm_from p g n [] = 0
times_alarm_from p g n (e ∷ es) = count_answered n e.answer g.waiting + times_alarm_from p (after p g e) n es

abbrev pub times_alarm : Setup → ℕ → List Entry → ℕ
times_alarm p n es = times_alarm_from p (first_ledger p) n es

-- a Job answers the job that follows those that were answered before it
abbrev pub count_job : ℕ → ℕ → Answer → ℕ
count_job n answered (Job job) = if answered == n then 1 else 0
count_job n answered answer = 0

abbrev pub times_job_from : Setup → Ledger → ℕ → List Entry → ℕ
times_job_from p g n [] = 0
times_job_from p g n (e ∷ es) = count_job n g.jobs e.answer + times_job_from p (after p g e) n es

-- how often the job of this number is answered by the entries, the jobs counted from 0 in the order of their moments and lines
abbrev pub times_job : Setup → ℕ → List Entry → ℕ
times_job p n es = times_job_from p (first_ledger p) n es

-- the alarm of an answer is the first that waits, and the job of an answer is the next one, and is due
abbrev pub AnswersFirst : Setup → Ledger → Answer → Type 0
AnswersFirst p g (Alarm ob info) = first_of g.waiting ≡ Some (ob, info)
AnswersFirst p g (Job job) = next_job (jobs_of p.plan) g.jobs g.moment ≡ Some job
AnswersFirst p g answer = Unit {0}

-- the answer may stand before an alarm: a side is lost or back, or is being updated, or the CPU is stopped; or it is an alarm
abbrev pub precedes_alarms : Answer → Bool
precedes_alarms (Lost side why) = true
precedes_alarms (CpuStop code) = true
precedes_alarms Hold = true
precedes_alarms (Back side) = true
precedes_alarms (Alarm ob info) = true
precedes_alarms answer = false

-- an entry answers what comes first, and one of any other answer stands where no alarm that waits is above its request's priority
pub record StandsInOrder (p : Setup) (g : Ledger) (e : Entry) : Type 0 where
  pub first : AnswersFirst p g e.answer
  pub none_above : precedes_alarms e.answer ≡ false → All (λ alarm. alarm.priority ≤ e.request.prio) g.waiting

abbrev pub StandInOrderFrom : Setup → Ledger → List Entry → Type 0
StandInOrderFrom p g [] = Unit {0}
StandInOrderFrom p g (e ∷ es) = StandsInOrder p g e × StandInOrderFrom p (after p g e) es

-- In a lawful record each ALARM line and each job is answered once at most; and each entry answers what comes first, or stands where
-- no alarm that waits is above its request's priority.
abbrev pub AnsweredOnce : Program → Plan → Bool → List Entry → Type 0
AnsweredOnce program plan solo es =
    IsPlan plan → Lawful program plan solo es
    → ((n : ℕ) → times_alarm (made_for program plan solo) n es ≤ 1) × ((n : ℕ) → times_job (made_for program plan solo) n es ≤ 1)
    × StandInOrderFrom (made_for program plan solo) (first_ledger (made_for program plan solo)) es
