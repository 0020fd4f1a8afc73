use Rattle.std.proofs.Common.{◌≡◌, ◌++◌, ◌∷◌, [], rules}
use Rattle.plant_script.proofs.IndexLaws.{no_slots, one_empty_more}
use Rattle.plant_script.proofs.input_index.empty_slots.Goals as goal

pub loop-slot-init : goal.loop-slot-init
loop-slot-init c = no_slots _ c.new-slots.ensures.items

pub loop-slot-preserved : goal.loop-slot-preserved
loop-slot-preserved c =
    let pushed : c.push.new.self.items ≡ c.loop-slot.slots.items ++ c.new.result.items ∷ [] = search rules in
    rw pushed (one_empty_more c.loop-slot.slots.items c.loop-slot._slot c.new.result.items c.loop-slot.invariant c.new.ensures.items)
