-- What the statements see.
use Rattle.std.specs.Prelude.{List}
use Rattle.cpu_image.specs.Image.{Image}
use Rattle.timers.specs.State.{TimerState}
use Rattle.counters.specs.State.{CounterState}
use Rattle.level_stack.specs.Levels.{LevelState}
use Rattle.statement_effects.specs.declared.areas.Registers.{Registers}

-- the areas and the registers: the image of the inputs, the outputs, the bit memory and the data blocks, the timers, the counters,
-- the registers, and the levels with their blocks, each block with its local data
pub record Memory : Type 0 where
  pub image : Image
  pub timers : List TimerState
  pub counters : List CounterState
  pub registers : Registers
  pub levels : List LevelState
