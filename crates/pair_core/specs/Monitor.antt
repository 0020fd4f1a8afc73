-- The monitoring of the cycle.
use Rattle.std.specs.Prelude.{ℕ, ◌+◌, ◌==◌, Bool, false, not, ◌&&◌, ◌||◌, nat_le, is_some, Option, Some, None}
use Rattle.s7_base.specs.declared.blocks.CodeKind.TheVariants.{Ob}
use Rattle.s7_events.specs.declared.entry.Ask.{Ask}
use Rattle.s7_events.specs.declared.entry.Ask.TheVariants.{Outputs, Retrigger, Cycle}
use Rattle.s7_events.specs.declared.entry.Answer.{Answer}
use Rattle.s7_events.specs.declared.entry.Answer.TheVariants.{Done}
use Rattle.s7_base.specs.Blocks.{Program, code_of}

-- From which moment the cycle is monitored after entry k: from k where its outputs are put out or the time is started anew; at
-- the end of a cycle it is not monitored.
abbrev pub watch_by : Option ℕ → ℕ → Ask → Answer → Option ℕ
watch_by before k (Outputs image) Done = Some k
watch_by before k Retrigger Done = Some k
watch_by before k Cycle answer = None
watch_by before k ask answer = before

-- how long a cycle may take, in milliseconds
abbrev pub monitoring_time : ℕ
monitoring_time = 150

-- the monitoring time is over at moment k, and not before
abbrev pub ends_monitoring : Option ℕ → ℕ → Bool
ends_monitoring None k = false
ends_monitoring (Some start) k = start + monitoring_time == k

-- how long it may take where the block that answers a cycle that takes too long is loaded
abbrev pub longest_time : ℕ
longest_time = 300

-- OB80, which answers a cycle that takes too long, is loaded
abbrev pub answers_overdue : Program → Bool
answers_overdue program = is_some (code_of program Ob 80)

-- The cycle takes too long for the CPU to go on at moment k: the longest time has passed; or the monitoring time has, and no block
-- is loaded that answers this.
abbrev pub is_overdue : Program → Option ℕ → ℕ → Bool
is_overdue program None k = false
is_overdue program (Some start) k = nat_le (start + longest_time) k || (nat_le (start + monitoring_time) k && not (answers_overdue program))
