-- Where a CPU stands.
use Rattle.std.specs.Prelude.{ℕ, Bool, Option}
use Rattle.s7_base.specs.declared.blocks.BlockRef.{BlockRef}
use Rattle.s7_events.specs.declared.entry.StopCode.{StopCode}
use Rattle.bit_unit.specs.State.{BitState}
use Rattle.statement_effects.specs.declared.instruction.Access.{Access}
use Rattle.statement_effects.specs.declared.areas.DataRegisters.{DataRegisters}
use Rattle.statement_effects.specs.declared.areas.Registers.{Registers}

-- the level that a block runs on: whether one of the blocks that have begun on it is an error OB
pub record Level : Type 0 where
  pub in_error : Bool

-- whether a block comes to its statement anew, or makes again a request that was not ended
pub data Mode : Type 0 where
  Fresh : Mode
  Ticking : Mode
  Timing : Mode
  Retriggering : Mode
  Reading : (access : Access) → Mode
  Writing : (access : Access) → Mode

-- at the start of a cycle, where the CPU asks to put out the output image; where it asks for the input image; at the end
-- of a cycle; where it hands on what a job read, or that its bytes are not there; where it asks to stop; where it has stopped;
-- at a statement of a block, counted from 0
pub data Place : Type 0 where
  AtOutputs : Place
  AtInputs : Place
  AtCycle : Place
  AtReply : (value : Option ℕ) → Place
  AtStop : (code : StopCode) → Place
  Over : Place
  At : (block : BlockRef) (at : ℕ) (level : Level) (mode : Mode) → Place

-- what comes back when a block ends: after an error OB, and after the first block of a level, all registers, and after a block that was called the open groups and
-- zones, whether the MCR is active, and which data blocks are opened
pub data Kept : Type 0 where
  Whole : (registers : Registers) → Kept
  Brackets : (unit : BitState) (opened : DataRegisters) → Kept

-- where a CPU goes on when a block ends, and what comes back
pub record Frame : Type 0 where
  pub place : Place
  pub kept : Kept
