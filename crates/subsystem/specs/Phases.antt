-- The machine of what a side is doing.
use Rattle.std.specs.Prelude.{◌≡◌, true, Option, None, is_some}
use Rattle.mc_machine.specs.Stands.{Running}
use Rattle.subsystem.specs.declared.parts.Phase.{Phase}
use Rattle.subsystem.specs.declared.parts.Phase.TheVariants.{Out, Holding, Running as Runs}

-- it has a machine while a life is open
abbrev pub machine_in : Phase → Option Running
machine_in Out = None
machine_in (Holding parcels) = None
machine_in (Runs machine) = machine

-- that machine runs
abbrev pub IsPhase : Phase → Type 0
IsPhase Out = Unit {0}
IsPhase (Holding parcels) = Unit {0}
IsPhase (Runs machine) = is_some machine ≡ true
