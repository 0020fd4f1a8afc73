-- What a call that plays what it made answers, from what its play answers.
use Rattle.std.proofs.Common.{◌≡◌, ℕ, Option, Some, None}
use Rattle.pair_io.specs.Causes.{Rose}
use Rattle.s7_base.specs.Blocks.{Program}
use Rattle.subsystem.specs.Part.{Part}
use Rattle.plant_script.specs.Plan.{Plan}
use Rattle.pair_top.specs.declared.faults.Fault.{Fault}
use Rattle.pair_top.specs.declared.faults.Fault.TheVariants.{SinkFault, NoMemory}
use Rattle.pair_top.specs.Outside.{Written}
use Rattle.pair_top.specs.Orders.{made}
use Rattle.pair_top.specs.Serving.{Account, IsOutcome, IsDone}
use Rattle.pair_top.specs.Making.{IsMadeProgram, IsMadePlan, MakeServed, MakesWhatIsDue}

module _ (moments : ℕ) (sink : Written) (account : Account) (a b : Part) (program : Program) (plan : Plan)
    (is : IsMadeProgram moments program) (planned : IsMadePlan moments plan) where
  pub served : (fault : Option Fault) → IsOutcome (made moments) program plan sink account a b fault → MakeServed moments sink account a b fault
  served None o = (program, plan, is, planned, o)
  served (Some SinkFault) o = (program, plan, is, planned, o)
  served (Some NoMemory) o = o
  served (Some fault) o = absurd o

  -- so it is done to its end
  pub done : (fault : Option Fault) → IsOutcome (made moments) program plan sink account a b fault → MakesWhatIsDue sink fault
  done None o takes = tt
  done (Some SinkFault) o takes = takes o.3.1.0
  done (Some NoMemory) o takes = tt
  done (Some fault) o takes = absurd o
