-- Which jobs a plant script gives, and which of them is answered next.
use Rattle.std.specs.Prelude.{ℕ, ◌+◌, if◌then◌else◌, nat_le, List, Option, Some, None, slice_get}
use Rattle.std.specs.List.{filter_map}
use Rattle.s7_events.specs.declared.entry.Job.{Job}
use Rattle.s7_events.specs.declared.entry.Answer.{Answer}
use Rattle.s7_events.specs.declared.entry.Answer.TheVariants as answers
use Rattle.plant_script.specs.Plan.{Plan}
use Rattle.plant_script.specs.declared.plan.Event.{Event}
use Rattle.plant_script.specs.declared.plan.What.{What}
use Rattle.plant_script.specs.declared.plan.What.TheVariants as events
use Rattle.pair_core.specs.declared.jobs.DueJob.{DueJob}

abbrev pub job_by : ℕ → What → Option DueJob
job_by moment (events.Job job) = Some (record { due = moment; job = job })
job_by moment (events.Input at_byte side value) = None
job_by moment (events.Alarm ob info) = None
job_by moment (events.Fail side late) = None
job_by moment (events.Return side fresh) = None
job_by moment (events.Suspect side pass) = None

-- the job of a JOB line
abbrev pub job_of : Event → Option DueJob
job_of event = job_by event.moment event.what

-- the jobs of the JOB lines, in the order of their moments and lines
unfoldable pub jobs_of : Plan → List DueJob
jobs_of plan = filter_map job_of plan.events

abbrev pub job_if_due : ℕ → Option DueJob → Option Job
job_if_due k None = None
job_if_due k (Some next) = if nat_le next.due k then Some next.job else None

-- of jobs of which so many were answered the next, where it is due at the moment
abbrev pub next_job : List DueJob → ℕ → ℕ → Option Job
next_job jobs answered k = job_if_due k (slice_get jobs answered)

-- how many jobs were answered, after one more entry of this answer
abbrev pub jobs_by : Answer → ℕ → ℕ
jobs_by (answers.Job job) answered = answered + 1
jobs_by answer answered = answered

-- what contracts see of the jobs that are kept: all of them, and how many were answered
pub record JobsKept : Type 0 where
  pub list : List DueJob
  pub answered : ℕ
