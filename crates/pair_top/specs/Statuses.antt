-- The exit status of each answer.
use Rattle.std.specs.Prelude.{ℕ, Option, Some, None}
use Rattle.pair_top.specs.declared.faults.Fault.{Fault}
use Rattle.pair_top.specs.declared.faults.Fault.TheVariants.{Usage, FileFault, TooLong, SourceFault, ScriptFault, SinkFault, NoMemory, Differs}

abbrev pub status_of : Option Fault → ℕ
status_of None = 0
status_of (Some (Differs line)) = 1
status_of (Some Usage) = 2
status_of (Some (FileFault which)) = 3
status_of (Some (TooLong which)) = 4
status_of (Some (SourceFault fault)) = 5
status_of (Some (ScriptFault fault)) = 6
status_of (Some SinkFault) = 7
status_of (Some NoMemory) = 8
