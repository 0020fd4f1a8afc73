-- Which alarms wait after each entry of a record.
use Rattle.std.specs.Prelude.{◌≡◌, ℕ, ◌+◌, ◌≤◌, ◌==◌, Bool, false, ◌||◌, if◌then◌else◌, nat_lt, List, [], ◌∷◌, All, Option, Some, None, length, IsTrue}
use Rattle.std.specs.List.{list_any}
use Rattle.s7_events.specs.Priorities.{is_cyclic}
use Rattle.s7_events.specs.declared.entry.Answer.{Answer}
use Rattle.s7_events.specs.declared.entry.Answer.TheVariants.{Alarm}
use Rattle.alarm_queue.specs.declared.alarm.DueAlarm.{DueAlarm}
use Rattle.alarm_queue.specs.declared.alarm.Source.{Source}
use Rattle.alarm_queue.specs.declared.alarm.Source.TheVariants.{Cpu, Module}
use Rattle.alarm_queue.specs.Order.{waits_once, tail, add_all}
use Rattle.alarm_queue.specs.Capacity.{QueueState}
use Rattle.alarm_queue.specs.Cursor.{IsPast}
use Rattle.alarm_queue.specs.Due.{Schedule, due_at}

-- an Alarm answers the first that waits
abbrev pub left_by : Answer → List DueAlarm → List DueAlarm
left_by (Alarm ob info) xs = tail xs
left_by _ xs = xs

-- what waits at the moment, where these waited: what is due by the script and the clock comes in, and what the pair adds
abbrev pub waiting_at : Schedule → ℕ → List DueAlarm → List DueAlarm → List DueAlarm
waiting_at schedule k by_pair xs = add_all by_pair (add_all (due_at schedule k) xs)

-- what waits at moment 0
abbrev pub first_waiting : Schedule → List DueAlarm → List DueAlarm
first_waiting schedule by_pair = waiting_at schedule 0 by_pair []

-- what waits at the moment after entry k with this answer, where these waited before it
abbrev pub waiting_after : Schedule → ℕ → Answer → List DueAlarm → List DueAlarm → List DueAlarm
waiting_after schedule k answer by_pair xs = waiting_at schedule (k + 1) by_pair (left_by answer xs)

-- the first that waits, where its priority is above this one: its OB and its start information
abbrev pub first_above : ℕ → List DueAlarm → Option (ℕ × ℕ)
first_above priority [] = None
first_above priority (x ∷ xs) = if nat_lt priority x.priority then Some (x.ob, x.info) else None

abbrev pub first_of : List DueAlarm → Option (ℕ × ℕ)
first_of [] = None
first_of (x ∷ xs) = Some (x.ob, x.info)

-- what the pair adds --

-- the blocks whose alarms the pair adds
abbrev pub is_of_pair : ℕ → Bool
is_of_pair ob = ob == 70 || ob == 72 || ob == 80

abbrev pub source_by : ℕ → ℕ → Source
source_by ob line = if ob == 70 then Module line else Cpu

-- the line of a module for OB70, else 0
abbrev pub is_its_line : List ℕ → ℕ → ℕ → Bool
is_its_line modules ob line = if ob == 70 then list_any (λ other. other == line) modules else line == 0

-- the state of the queue --

-- what makes alarms due, what waits, the moment for which it is to be asked next what is due, and how often OB72 may still be added
pub record State : Type 0 where
  pub schedule : Schedule
  pub waiting : List DueAlarm
  pub moment : ℕ
  pub redundancy_left : ℕ

abbrev pub moment_after : Option ℕ → ℕ
moment_after None = 0
moment_after (Some k) = k + 1

-- the lines up to the cursor have come in, and there is capacity for the others
pub record IsState (lines : List DueAlarm) (cyclic : List ℕ) (cursor : ℕ) (last : Option ℕ) (queue : QueueState) (redundancy_left : ℕ) : Type 0 where
  pub past : IsPast lines (moment_after last) cursor
  pub others : All (λ a. waits_once a.ob ≡ false) lines
  pub periods : All (λ ob. IsTrue (is_cyclic ob)) cyclic
  pub more : length lines + redundancy_left ≤ queue.more + cursor
