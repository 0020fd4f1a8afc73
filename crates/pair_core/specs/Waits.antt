-- Which alarms wait, as entries are added.
use Rattle.std.specs.Prelude.{ℕ, ◌+◌, ◌<◌, ◌&&◌, if◌then◌else◌, List, [], ◌∷◌, ◌++◌, length, map, Option}
use Rattle.s7_base.specs.Blocks.{Program}
use Rattle.s7_events.specs.declared.entry.Answer.{Answer}
use Rattle.s7_events.specs.declared.entry.Answer.TheVariants.{Alarm}
use Rattle.alarm_queue.specs.declared.alarm.DueAlarm.{DueAlarm}
use Rattle.plant_script.specs.Plan.{Plan}
use Rattle.plant_script.specs.declared.plan.Module.{Module}
use Rattle.plant_io.specs.PairValue.{PairState}
use Rattle.plant_io.specs.Inputs.{modules_due}
use Rattle.alarm_queue.specs.declared.alarm.Source.TheVariants as sources
use Rattle.alarm_queue.specs.Order.{due_alarm}
use Rattle.alarm_queue.specs.Due.{Schedule, schedule_of, redundancy_due}
use Rattle.alarm_queue.specs.Waiting.{first_waiting, waiting_after}
use Rattle.pair_core.specs.Setup.{Setup}
use Rattle.pair_core.specs.Monitor.{answers_overdue, ends_monitoring}

-- what makes alarms due
unfoldable pub schedule : Setup → Schedule
schedule p = schedule_of p.plan p.program

-- OB80, where it is loaded, is due at the moment at which the monitoring time is over
abbrev pub overdue_due : Program → Option ℕ → ℕ → List DueAlarm
overdue_due program watch k = if ends_monitoring watch k && answers_overdue program then due_alarm 80 k sources.Cpu 0 ∷ [] else []

-- OB70 of a module, with its first byte
abbrev pub discrepancy_at : ℕ → Module → DueAlarm
discrepancy_at k m = due_alarm 70 k (sources.Module m.line) m.at_byte

-- OB70, loaded or not, is due at each module at which the sides have now differed for just as long as its discrepancy time, where this
-- is the state of each module after the moment
abbrev pub discrepancy_due : Plan → (Module → PairState) → ℕ → List DueAlarm
discrepancy_due plan inputs k = map (discrepancy_at k) (modules_due plan inputs)

-- what is due beside the lines and the clock, at the moment after an entry of this answer, where the cycle is monitored as said, and
-- this is the state of each module after the moment
unfoldable pub due_by_pair : Program → Plan → Option ℕ → (Module → PairState) → ℕ → Answer → List DueAlarm
due_by_pair program plan watch inputs k answer = overdue_due program watch k ++ (discrepancy_due plan inputs k ++ redundancy_due program k answer)

-- what waits at moment 0, at which no cycle is monitored
abbrev pub waiting_at_first : Setup → (Module → PairState) → List DueAlarm
waiting_at_first p inputs = first_waiting (schedule p) (discrepancy_due p.plan inputs 0)

-- what waits at the moment after entry k with this answer, where these waited before it: all but the one that the entry answers,
-- and what is due then
unfoldable pub waits_after : Setup → ℕ → Option ℕ → (Module → PairState) → Answer → List DueAlarm → List DueAlarm
waits_after p k watch inputs answer waiting = waiting_after (schedule p) k answer (due_by_pair p.program p.plan watch inputs (k + 1) answer) waiting

-- an entry answers an alarm only where one waits
abbrev pub MayLeave : Answer → List DueAlarm → Type 0
MayLeave (Alarm ob info) waiting = 0 < length waiting
MayLeave answer waiting = Unit {0}
