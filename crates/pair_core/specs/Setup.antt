-- What a pair is made for.
use Rattle.std.specs.Prelude.{Bool}
use Rattle.s7_base.specs.Blocks.{Program}
use Rattle.plant_script.specs.Plan.{Plan}

-- the program of its CPUs, the plant script, and whether side A runs alone
pub record Setup : Type 0 where
  pub program : Program
  pub plan : Plan
  pub solo : Bool

abbrev pub made_for : Program → Plan → Bool → Setup
made_for program plan solo = record { program = program; plan = plan; solo = solo }
