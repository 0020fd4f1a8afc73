-- Laws of the alarms that wait, over whole records.
use Rattle.std.specs.Prelude.{◌≡◌, ℕ, ◌+◌, ◌*◌, ◌<◌, ◌≤◌, ◌==◌, ◌↔◌, Bool, false, if◌then◌else◌, List, [], ◌∷◌, IsTrue}
use Rattle.std.specs.List.{AllPairs}
use Rattle.s7_base.specs.Blocks.{Program}
use Rattle.s7_events.specs.declared.entry.Answer.{Answer}
use Rattle.s7_events.specs.declared.entry.Answer.TheVariants.{Alarm}
use Rattle.plant_script.specs.Plan.{Plan}
use Rattle.alarm_queue.specs.declared.alarm.DueAlarm.{DueAlarm}
use Rattle.alarm_queue.specs.declared.alarm.Source.{Source}
use Rattle.alarm_queue.specs.declared.alarm.Source.TheVariants.{Cpu, Module, Line}
use Rattle.alarm_queue.specs.Due.{Schedule, schedule_of, period_of, ends_period}
use Rattle.alarm_queue.specs.Waiting.{first_waiting, waiting_after}

-- an entry: its answer, and what the pair adds at the moment after it
pub record Step : Type 0 where
  pub answer : Answer
  pub by_pair : List DueAlarm

abbrev pub is_of_line : ℕ → Source → Bool
is_of_line n Cpu = false
is_of_line n (Module line) = false
is_of_line n (Line line) = line == n

-- how many are of the ALARM line of this number
abbrev pub count_line : ℕ → List DueAlarm → ℕ
count_line n [] = 0
count_line n (x ∷ xs) = (if is_of_line n x.source then 1 else 0) + count_line n xs

-- none is of an ALARM line
abbrev pub AreOfPair : List DueAlarm → Type 0
AreOfPair [] = Unit {0}
AreOfPair (x ∷ xs) = ((n : ℕ) → is_of_line n x.source ≡ false) × AreOfPair xs

abbrev pub StepsAreOfPair : List Step → Type 0
StepsAreOfPair [] = Unit {0}
StepsAreOfPair (s ∷ ss) = AreOfPair s.by_pair × StepsAreOfPair ss

abbrev pub count_first : ℕ → List DueAlarm → ℕ
count_first n [] = 0
count_first n (x ∷ xs) = if is_of_line n x.source then 1 else 0

-- an Alarm answers the line of the first that waits
abbrev pub count_answered : ℕ → Answer → List DueAlarm → ℕ
count_answered n (Alarm ob info) xs = count_first n xs
count_answered n _ xs = 0

abbrev pub times_answered_from : Schedule → ℕ → ℕ → List DueAlarm → List Step → ℕ
times_answered_from schedule n k xs [] = 0
times_answered_from schedule n k xs (s ∷ ss) =
    count_answered n s.answer xs + times_answered_from schedule n (k + 1) (waiting_after schedule k s.answer s.by_pair xs) ss

-- how often the ALARM line of this number is answered by the entries
abbrev pub times_answered : Schedule → ℕ → List DueAlarm → List Step → ℕ
times_answered schedule n by_pair steps = times_answered_from schedule n 0 (first_waiting schedule by_pair) steps

-- no ALARM line is answered more often than it stands in the script
abbrev pub AnsweredAsGiven : Schedule → List DueAlarm → List Step → Type 0
AnsweredAsGiven schedule by_pair steps =
    AreOfPair by_pair → StepsAreOfPair steps → (n : ℕ) → times_answered schedule n by_pair steps ≤ count_line n schedule.lines

-- each event stands in a line of its own
abbrev pub HasOwnLines : Plan → Type 0
HasOwnLines plan = AllPairs (λ earlier later. earlier.line < later.line) plan.events

-- each ALARM line is answered once at most, whatever the entries are
abbrev pub AnsweredOnce : Plan → Program → List DueAlarm → List Step → Type 0
AnsweredOnce plan program by_pair steps =
    HasOwnLines plan → AreOfPair by_pair → StepsAreOfPair steps → (n : ℕ) → times_answered (schedule_of plan program) n by_pair steps ≤ 1

-- a cyclic alarm is due at the first end of its period, not at 0, and at each later one
abbrev pub IsDueByPeriod : ℕ → ℕ → Type 0
IsDueByPeriod ob k = IsTrue (ends_period k ob) ↔ ((n : ℕ) × (0 < n) × (k ≡ n * period_of ob))
