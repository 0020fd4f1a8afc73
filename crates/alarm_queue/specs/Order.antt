-- Which alarms wait, in the order in which they are answered.
use Rattle.std.specs.Prelude.{◌≡◌, ℕ, ◌==◌, Bool, false, ◌&&◌, ◌||◌, if◌then◌else◌, nat_lt, List, [], ◌∷◌}
use Rattle.std.specs.List.{list_any, AllPairs}
use Rattle.s7_events.specs.Priorities.{is_cyclic, priority_of}
use Rattle.alarm_queue.specs.declared.alarm.DueAlarm.{DueAlarm}
use Rattle.alarm_queue.specs.declared.alarm.Source.{Source}
use Rattle.alarm_queue.specs.declared.alarm.Source.TheVariants.{Cpu, Module, Line}

-- the line of its MODULE line or ALARM line, 0 where it has none
abbrev pub line_of : Source → ℕ
line_of Cpu = 0
line_of (Module line) = line
line_of (Line line) = line

abbrev pub due_alarm : ℕ → ℕ → Source → ℕ → DueAlarm
due_alarm ob due source info = record { ob = ob; priority = priority_of ob; due = due; source = source; info = info }

-- higher priority first, then the earlier moment, then the line
unfoldable pub is_before : DueAlarm → DueAlarm → Bool
is_before x y =
    if x.priority == y.priority then (if x.due == y.due then nat_lt (line_of x.source) (line_of y.source) else nat_lt x.due y.due)
    else nat_lt y.priority x.priority

-- none that stands later goes before one that stands earlier
abbrev pub InOrder : List DueAlarm → Type 0
InOrder xs = AllPairs (λ earlier later. is_before later earlier ≡ false) xs

-- into its place, after those that it does not go before
abbrev pub insert : DueAlarm → List DueAlarm → List DueAlarm
insert x [] = x ∷ []
insert x (y ∷ ys) = if is_before x y then x ∷ y ∷ ys else y ∷ insert x ys

-- of the same OB, and of the same module where they are of a module: the alarms of the CPU have no line
abbrev pub is_same : DueAlarm → DueAlarm → Bool
is_same x y = line_of x.source == line_of y.source && x.ob == y.ob

-- the alarms of which one alone waits: cyclic ones, those of a module, and that of the monitoring time
abbrev pub waits_once : ℕ → Bool
waits_once ob = is_cyclic ob || ob == 70 || ob == 80

-- whether one that is the same waits
abbrev pub waits : DueAlarm → List DueAlarm → Bool
waits x xs = list_any (λ y. is_same x y) xs

-- an alarm that becomes due; one that waits once isn't added while one that is the same waits
abbrev pub add : DueAlarm → List DueAlarm → List DueAlarm
add x xs = if waits_once x.ob && waits x xs then xs else insert x xs

-- one after another
abbrev pub add_all : List DueAlarm → List DueAlarm → List DueAlarm
add_all [] xs = xs
add_all (a ∷ rest) xs = add_all rest (add a xs)

abbrev pub tail : List DueAlarm → List DueAlarm
tail [] = []
tail (x ∷ xs) = xs
