-- Which alarms become due at a moment.
use Rattle.std.specs.Prelude.{ℕ, ◌%◌, ◌==◌, Bool, ◌&&◌, ◌||◌, if◌then◌else◌, nat_lt, nat_le, true, List, [], ◌∷◌, ◌++◌, map, filter, Option, Some, None, is_some}
use Rattle.std.specs.List.{filter_map}
use Rattle.s7_events.specs.Priorities.{is_process}
use Rattle.s7_base.specs.Blocks.{Program, code_of}
use Rattle.s7_base.specs.declared.blocks.CodeKind.TheVariants.{Ob}
use Rattle.s7_events.specs.declared.entry.Side.TheVariants.{A, B}
use Rattle.s7_events.specs.declared.entry.Answer.{Answer}
use Rattle.s7_events.specs.declared.entry.Answer.TheVariants as answers
use Rattle.plant_script.specs.Plan.{Plan}
use Rattle.plant_script.specs.declared.plan.Event.{Event}
use Rattle.plant_script.specs.declared.plan.What.{What}
use Rattle.plant_script.specs.declared.plan.What.TheVariants as events
use Rattle.alarm_queue.specs.declared.alarm.DueAlarm.{DueAlarm}
use Rattle.alarm_queue.specs.declared.alarm.Source.TheVariants.{Cpu, Line}
use Rattle.alarm_queue.specs.Order.{due_alarm}

-- by the plant script --

-- the blocks that an ALARM line starts: process alarms and the diagnostic interrupt
abbrev pub is_of_line : ℕ → Bool
is_of_line ob = is_process ob || ob == 82

abbrev pub alarm_by : ℕ → ℕ → What → Option DueAlarm
alarm_by moment line (events.Alarm ob info) = if is_of_line ob then Some (due_alarm ob moment (Line line) info) else None
alarm_by moment line (events.Input at_byte side value) = None
alarm_by moment line (events.Job job) = None
alarm_by moment line (events.Fail side late) = None
alarm_by moment line (events.Return side fresh) = None
alarm_by moment line (events.Suspect side pass) = None

-- the alarm of an ALARM line
abbrev pub alarm_of : Event → Option DueAlarm
alarm_of event = alarm_by event.moment event.line event.what

-- none of the events is earlier than the one before it, and the first not than this moment
abbrev pub rises_from : ℕ → List Event → Bool
rises_from m [] = true
rises_from m (event ∷ rest) = nat_le m event.moment && rises_from event.moment rest

-- by the clock --

-- the period of a cyclic OB, in milliseconds
abbrev pub period_of : ℕ → ℕ
period_of ob =
    if ob == 30 then 5000
    else if ob == 31 then 2000
    else if ob == 32 then 1000
    else if ob == 33 then 500
    else if ob == 34 then 200
    else if ob == 35 then 100
    else if ob == 36 then 50
    else if ob == 37 then 20
    else 10

-- whole periods have gone by, one at least
abbrev pub ends_period : ℕ → ℕ → Bool
ends_period k ob = nat_lt 0 k && k % period_of ob == 0

abbrev pub cyclic_obs : List ℕ
cyclic_obs = 30 ∷ 31 ∷ 32 ∷ 33 ∷ 34 ∷ 35 ∷ 36 ∷ 37 ∷ 38 ∷ []

abbrev pub is_loaded : Program → ℕ → Bool
is_loaded program ob = is_some (code_of program Ob ob)

-- what is due --

-- the alarms of the ALARM lines by their moments, the cyclic OBs that are loaded, and the lines of the modules
pub record Schedule : Type 0 where
  pub lines : List DueAlarm
  pub cyclic : List ℕ
  pub modules : List ℕ

abbrev pub schedule_of : Plan → Program → Schedule
schedule_of plan program = record {
  lines = filter_map alarm_of plan.events;
  cyclic = filter (is_loaded program) cyclic_obs;
  modules = map (λ m. m.line) plan.modules;
}

abbrev pub lines_due : List DueAlarm → ℕ → List DueAlarm
lines_due lines k = filter (λ a. a.due == k) lines

abbrev pub cyclic_due : List ℕ → ℕ → List DueAlarm
cyclic_due obs k = map (λ ob. due_alarm ob k Cpu 0) (filter (ends_period k) obs)

-- what a script and the clock make due at the moment
abbrev pub due_at : Schedule → ℕ → List DueAlarm
due_at schedule k = cyclic_due schedule.cyclic k ++ lines_due schedule.lines k

-- by the pair --

-- the start information of OB72: 1 and 2 side A and side B lost, 3 and 4 side A and side B back
abbrev pub redundancy_info : Answer → Option ℕ
redundancy_info (answers.Lost A why) = Some 1
redundancy_info (answers.Lost B why) = Some 2
redundancy_info (answers.Back A) = Some 3
redundancy_info (answers.Back B) = Some 4
redundancy_info _ = None

abbrev pub redundancy_by : Bool → ℕ → Option ℕ → List DueAlarm
redundancy_by loaded k None = []
redundancy_by loaded k (Some info) = if loaded then due_alarm 72 k Cpu info ∷ [] else []

-- OB72, where it is loaded, is due at the moment after an entry that loses a side or brings one back
abbrev pub redundancy_due : Program → ℕ → Answer → List DueAlarm
redundancy_due program k answer = redundancy_by (is_loaded program 72) k (redundancy_info answer)
