-- Each timer and each counter is a fresh one.
use Rattle.std.proofs.Common.{◌≡◌, List, []}
use Rattle.std.specs.Prelude.{replicate}
use Rattle.s7_base.specs.Blocks.{Program}
use Rattle.cpu_image.specs.Image.{Image}
use Rattle.cpu_image.specs.Layout.{laid}
use Rattle.timers.specs.State as timers
use Rattle.counters.specs.State as counters
use Rattle.level_stack.specs.Levels.{LevelState}
use Rattle.statement_effects.specs.State.{Memory}
use Rattle.statement_effects.specs.declared.areas.Registers.{Registers}
use Rattle.statement_effects.specs.Areas.{clear_registers, start_memory}
use Rattle.statement_effects.proofs.areas.Memory.start.Goals as goal

begun : (program : Program) (image : Image) (timer : timers.TimerState) (counter : counters.CounterState) (registers : Registers) (levels : List LevelState)
    → image ≡ laid program → timer ≡ timers.fresh → counter ≡ counters.fresh → registers ≡ clear_registers → levels ≡ []
    → (let memory : Memory = record { image = image; timers = replicate 256 timer; counters = replicate 256 counter; registers = registers; levels = levels } in memory ≡ start_memory program)
begun program image timer counter registers levels a b c d e = cc

pub returns : goal.returns
returns c =
    begun c.args.blocks.now c.in_ok-image.image c.new.result c.new-2.result c.clear.result c.new-3.result
    c.in_ok-image.ensures c.new.ensures c.new-2.ensures c.clear.ensures c.new-3.ensures
