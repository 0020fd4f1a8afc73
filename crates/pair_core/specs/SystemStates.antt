-- What state the pair is in.
use Rattle.std.specs.Prelude.{Bool, true, false, ◌&&◌, if◌then◌else◌, Option, Some, None}
use Rattle.pair_core.specs.declared.endings.Ended.{Ended}
use Rattle.pair_core.specs.declared.endings.Ended.TheVariants.{End, Stop, NoneLeft, Spent, NotPlayed}
use Rattle.pair_core.specs.declared.endings.SystemState.{SystemState}
use Rattle.pair_core.specs.declared.endings.SystemState.TheVariants as states
use Rattle.pair_core.specs.declared.standing.Standing.{Standing}

-- the run has ended by a stop, or by none
abbrev pub is_stopped : Option Ended → Bool
is_stopped None = false
is_stopped (Some (Stop code)) = true
is_stopped (Some NoneLeft) = true
is_stopped (Some End) = false
is_stopped (Some Spent) = false
is_stopped (Some NotPlayed) = false

-- it has stopped; or two sides run; or one. No side comes back or is suspected yet.
abbrev pub state_by : Option Ended → Standing → SystemState
state_by ending st = if is_stopped ending then states.Stop else (if st.running.a && st.running.b then states.Redundant else states.Solo)
