-- Which records are lawful for a program and a script.
use Rattle.std.specs.Prelude.{◌≡◌, ℕ, ◌<◌, Bool, true, not, ◌&&◌, ◌||◌, if◌then◌else◌, List, [], ◌∷◌, Option, Some, None}
use Rattle.s7_events.specs.declared.entry.Side.{Side}
use Rattle.s7_events.specs.declared.entry.Side.TheVariants.{A, B}
use Rattle.s7_events.specs.declared.entry.Loss.TheVariants.{Failed}
use Rattle.s7_events.specs.declared.entry.StopCode.TheVariants as codes
use Rattle.s7_events.specs.declared.entry.Ask.{Ask}
use Rattle.s7_events.specs.declared.entry.Ask.TheVariants as asks
use Rattle.s7_events.specs.declared.entry.Request.{Request}
use Rattle.s7_events.specs.declared.entry.Job.{Job}
use Rattle.s7_events.specs.declared.entry.Answer.{Answer}
use Rattle.s7_events.specs.declared.entry.Answer.TheVariants as answers
use Rattle.s7_events.specs.declared.entry.Entry.{Entry}
use Rattle.s7_base.specs.Blocks.{Program}
use Rattle.plant_script.specs.Plan.{Plan}
use Rattle.plant_io.specs.Inputs.{input_image, input_read, takes_output}
use Rattle.alarm_queue.specs.Waiting.{first_above}
use Rattle.pair_core.specs.Cuts.{is_cut}
use Rattle.pair_core.specs.Setup.{Setup, made_for}
use Rattle.pair_core.specs.Ledger.{Ledger, first_ledger, after}
use Rattle.pair_core.specs.PlantInputs.{answer_read, answer_written}
use Rattle.pair_core.specs.Monitor.{is_overdue}
use Rattle.pair_core.specs.Jobs.{jobs_of, next_job}

-- The answer to a request that nothing prevents: the input image is that of the plant, with the sides that run before the entry, and
-- so is what a direct access reads; it is refused where no single module that is reached has all its bytes; and all else is done.
abbrev pub plain_answer : Setup → Ledger → Ask → Option Answer
plain_answer p g (asks.Outputs image) = Some answers.Done
plain_answer p g asks.Inputs = Some (answers.Image (input_image p.plan g.standing.running.a g.standing.running.b g.inputs g.moment))
plain_answer p g asks.Cycle = Some answers.Go
plain_answer p g asks.Now = Some (answers.Now g.moment)
plain_answer p g asks.Tick = Some answers.Done
plain_answer p g asks.Retrigger = Some answers.Done
plain_answer p g (asks.Reply value) = Some answers.Done
plain_answer p g (asks.Stop code) = Some answers.Done
plain_answer p g (asks.ReadP addr width) =
    Some (answer_read (input_read p.plan g.standing.running.a g.standing.running.b g.inputs g.moment addr width))
plain_answer p g (asks.WriteP addr width value) = Some (answer_written (takes_output p.plan g.standing.running.a g.standing.running.b addr width))

-- the alarm, by the number of its block and its start information, or else this
abbrev pub alarm_or : Option (ℕ × ℕ) → Option Answer → Option Answer
alarm_or None other = other
alarm_or (Some alarm) other = Some (answers.Alarm alarm.0 alarm.1)

-- the job, or else this
abbrev pub job_or : Option Job → Option Answer → Option Answer
job_or None other = other
job_or (Some job) other = Some (answers.Job job)

-- the next job that is due, where the next cycle may start
abbrev pub job_for : Setup → Ledger → Ask → Option Job
job_for p g asks.Cycle = next_job (jobs_of p.plan) g.jobs g.moment
job_for p g ask = None

-- the answer where no alarm goes first: the next job that is due, where the next cycle may start; else the plain answer
abbrev pub calm_answer : Setup → Ledger → Ask → Option Answer
calm_answer p g ask = job_or (job_for p g ask) (plain_answer p g ask)

-- The answer where no side is lost, by the first rule that applies: a cycle that takes too long stops the CPU; the first alarm
-- that waits, where its priority is above the request's; a job; the plain answer.
unfoldable pub going_answer : Setup → Ledger → Request → Option Answer
going_answer p g request =
    if is_overdue p.program g.watch g.moment then Some (answers.CpuStop codes.Cycle)
    else alarm_or (first_above request.prio g.waiting) (calm_answer p g request.ask)

-- two sides run, and this one is cut
abbrev pub falls : Setup → Ledger → Side → Bool
falls p g s = g.standing.running.a && g.standing.running.b && is_cut p.plan s g.moment

-- The lawful answer, given what the record says so far, by the first rule that applies: of two sides that run, the one that is
-- cut is lost; a cycle that takes too long stops the CPU; the first alarm that waits goes first, where its priority is above the
-- request's; a job is done first where the next cycle may start; else the plain answer.
abbrev pub answer_at : Setup → Ledger → Request → Option Answer
answer_at p g request =
    if falls p g A then Some (answers.Lost A Failed) else (if falls p g B then Some (answers.Lost B Failed) else going_answer p g request)

-- The answer may be given: it is the one that these rules give. So far no rule leaves a choice.
abbrev pub MayAnswer : Setup → Ledger → Request → Answer → Type 0
MayAnswer p g request answer = answer_at p g request ≡ Some answer

-- a side that runs is not cut
abbrev pub someone_stands : Setup → Ledger → Bool
someone_stands p g = (g.standing.running.a && not (is_cut p.plan A g.moment)) || (g.standing.running.b && not (is_cut p.plan B g.moment))

-- An entry may stand: the record is not at its end, its last entry does not stop the CPU, a side that runs is not cut, and the
-- answer is one that may be given.
pub record MayStand (p : Setup) (g : Ledger) (e : Entry) : Type 0 where
  pub early : g.moment < p.plan.end
  pub going : g.stop ≡ None
  pub stands : someone_stands p g ≡ true
  pub answer : MayAnswer p g e.request e.answer

abbrev pub LawfulFrom : Setup → Ledger → List Entry → Type 0
LawfulFrom p g [] = Unit {0}
LawfulFrom p g (e ∷ es) = MayStand p g e × LawfulFrom p (after p g e) es

-- each entry of the record may stand where it stands
abbrev pub IsLawful : Setup → List Entry → Type 0
IsLawful p es = LawfulFrom p (first_ledger p) es

-- the same of a program, a script and whether side A runs alone
abbrev pub Lawful : Program → Plan → Bool → List Entry → Type 0
Lawful program plan solo es = IsLawful (made_for program plan solo) es
