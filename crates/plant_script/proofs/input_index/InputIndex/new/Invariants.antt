use Rattle.std.proofs.Common.{take}
use Rattle.plant_script.specs.InputIndex.{IsIndex}
use Rattle.plant_script.proofs.input_index.InputIndex.new.Given as goal

abbrev pub invariant-loop-event : goal.invariant-loop-event
invariant-loop-event l = IsIndex l.slots.items (take l.event-index l.events)
