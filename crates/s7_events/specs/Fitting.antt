-- Which answers fit a request.
use Rattle.std.specs.Prelude.{ℕ, ◌*◌, ◌^◌, ◌==◌, ◌&&◌, ◌||◌, Bool, true, false, not, nat_lt, nat_le}
use Rattle.s7_events.specs.declared.entry.Ask.{Ask}
use Rattle.s7_events.specs.declared.entry.Ask.TheVariants as asks
use Rattle.s7_events.specs.declared.entry.Request.{Request}
use Rattle.s7_events.specs.declared.entry.Answer.{Answer}
use Rattle.s7_events.specs.declared.entry.Answer.TheVariants.{Image, Value, Now, Done, Go, Hold, Alarm, Job, Lost, Back, NoModule, CpuStop}
use Rattle.s7_events.specs.declared.entry.Job as jobs
use Rattle.s7_events.specs.declared.entry.StopCode.{StopCode}
use Rattle.s7_events.specs.declared.entry.StopCode.TheVariants.{Cycle}
use Rattle.s7_events.specs.Priorities.{is_alarm, priority_of}

-- the value lies in so many bytes
abbrev pub has_width : ℕ → ℕ → Bool
has_width value width = nat_lt value (2 ^ (8 * width))

-- a job of 1, 2 or 4 bytes, whose value is 0 where it reads
abbrev pub is_job : jobs.Job → Bool
is_job job = (job.width == 1 || job.width == 2 || job.width == 4) && has_width job.value job.width && (job.write || job.value == 0)

abbrev pub is_cycle : Ask → Bool
is_cycle asks.Cycle = true
is_cycle _ = false

abbrev pub is_cycle_stop : StopCode → Bool
is_cycle_stop Cycle = true
is_cycle_stop _ = false

-- the answer ends the request
abbrev pub ends : Ask → Answer → Bool
ends (asks.Outputs image) Done = true
ends asks.Inputs (Image image) = true
ends asks.Cycle Go = true
ends (asks.ReadP addr width) (Value value) = has_width value width
ends (asks.ReadP addr width) NoModule = true
ends (asks.WriteP addr width value) Done = true
ends (asks.WriteP addr width value) NoModule = true
ends asks.Now (Now moment) = true
ends asks.Tick Done = true
ends asks.Retrigger Done = true
ends (asks.Reply value) Done = true
ends (asks.Stop code) Done = true
ends _ _ = false

-- The answer ends the request; or it is the loss of a side, or a stop for the cycle time; or an alarm above the
-- request's priority, of OB70 with an address; or the request is Cycle and it is Hold, Back or a job.
abbrev pub fits : Request → Answer → Bool
fits request (Lost side why) = true
fits request (CpuStop code) = is_cycle_stop code
fits request (Alarm ob info) = is_alarm ob && nat_lt request.prio (priority_of ob) && (not (ob == 70) || nat_le info 65535)
fits request Hold = is_cycle request.ask
fits request (Back side) = is_cycle request.ask
fits request (Job job) = is_cycle request.ask && is_job job
fits request answer = ends request.ask answer
