-- The organisation blocks that start a level, and their priorities.
use Rattle.std.specs.Prelude.{ℕ, ◌-◌, ◌==◌, ◌&&◌, ◌||◌, Bool, nat_le, if◌then◌else◌}

-- cyclic interrupts
abbrev pub is_cyclic : ℕ → Bool
is_cyclic ob = nat_le 30 ob && nat_le ob 38

-- process alarms
abbrev pub is_process : ℕ → Bool
is_process ob = nat_le 40 ob && nat_le ob 47

-- the blocks that an alarm starts
abbrev pub is_alarm : ℕ → Bool
is_alarm ob = is_cyclic ob || is_process ob || ob == 70 || ob == 72 || ob == 80 || ob == 82

-- the blocks that start a level
abbrev pub has_priority : ℕ → Bool
has_priority ob = is_alarm ob || ob == 1 || ob == 85 || ob == 100

-- the organisation blocks: those that start a level, and those for errors
abbrev pub is_ob : ℕ → Bool
is_ob number = has_priority number || number == 121 || number == 122

abbrev pub priority_of : ℕ → ℕ
priority_of ob =
    if is_cyclic ob then ob - 23
    else if is_process ob then ob - 24
    else if ob == 70 then 25
    else if ob == 80 || ob == 82 || ob == 85 then 26
    else if ob == 100 then 27
    else if ob == 72 then 28
    else 1
