use Rattle.plant_script.specs.InputIndex.{AreEmpty}
use Rattle.plant_script.proofs.input_index.empty_slots.Given as goal

abbrev pub invariant-loop-slot : goal.invariant-loop-slot
invariant-loop-slot l = AreEmpty l._slot l.slots.items
