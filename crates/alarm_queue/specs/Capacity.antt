-- How many alarms may wait.
use Rattle.std.specs.Prelude.{◌≡◌, ℕ, ◌+◌, ◌==◌, ◌≤◌, Bool, true, false, ◌&&◌, if◌then◌else◌, List, [], ◌∷◌, ◌++◌, map, length}
use Rattle.std.specs.List.{list_any}
use Rattle.alarm_queue.specs.declared.alarm.DueAlarm.{DueAlarm}
use Rattle.alarm_queue.specs.Order.{line_of, waits_once, waits, InOrder}

-- a kind of alarm of which one alone waits: its OB, and the line of its module or 0
pub record Slot : Type 0 where
  pub ob : ℕ
  pub line : ℕ

abbrev pub cpu_slot : ℕ → Slot
cpu_slot ob = record { ob = ob; line = 0 }

abbrev pub module_slot : ℕ → Slot
module_slot line = record { ob = 70; line = line }

-- those of the CPU: OB30 to OB38 and OB80
abbrev pub cpu_slots : List Slot
cpu_slots =
    cpu_slot 30 ∷ cpu_slot 31 ∷ cpu_slot 32 ∷ cpu_slot 33 ∷ cpu_slot 34 ∷ cpu_slot 35 ∷ cpu_slot 36 ∷ cpu_slot 37 ∷ cpu_slot 38 ∷ cpu_slot 80 ∷ []

-- those of the CPU, and OB70 for each module
abbrev pub slots : List ℕ → List Slot
slots modules = cpu_slots ++ map module_slot modules

abbrev pub is_of_slot : DueAlarm → Slot → Bool
is_of_slot x s = line_of x.source == s.line && x.ob == s.ob

abbrev pub has_slot : List Slot → DueAlarm → Bool
has_slot ss x = list_any (λ s. is_of_slot x s) ss

-- each alarm that waits once has a slot
abbrev pub HaveSlots : List Slot → List DueAlarm → Type 0
HaveSlots ss [] = Unit {0}
HaveSlots ss (x ∷ xs) = (waits_once x.ob ≡ true → has_slot ss x ≡ true) × HaveSlots ss xs

-- no two are the same, of those that wait once
abbrev pub AreOnce : List DueAlarm → Type 0
AreOnce [] = Unit {0}
AreOnce (x ∷ xs) = (waits_once x.ob ≡ true → waits x xs ≡ false) × AreOnce xs

-- how many of any number wait, that is all but those that wait once
abbrev pub count_others : List DueAlarm → ℕ
count_others [] = 0
count_others (x ∷ xs) = (if waits_once x.ob then 0 else 1) + count_others xs

-- there is capacity for so many more others, and for each slot
pub record HasCapacity (modules : List ℕ) (more capacity : ℕ) (xs : List DueAlarm) : Type 0 where
  pub once : AreOnce xs
  pub slots : HaveSlots (slots modules) xs
  pub fits : count_others xs + more + 10 + length modules ≤ capacity

-- the alarms that wait in order, for how many more others there is capacity, and the lines of the modules
pub record QueueState : Type 0 where
  pub alarms : List DueAlarm
  pub modules : List ℕ
  pub more : ℕ

pub record IsQueue (alarms : List DueAlarm) (modules : List ℕ) (more capacity : ℕ) : Type 0 where
  pub order : InOrder alarms
  pub enough : HasCapacity modules more capacity alarms
