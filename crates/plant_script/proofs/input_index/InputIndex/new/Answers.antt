use Rattle.plant_script.proofs.IndexLaws.{turn_added}
use Rattle.plant_script.proofs.input_index.InputIndex.new.Goals as goal

pub loop-event-preserved : goal.loop-event-preserved
loop-event-preserved c =
    turn_added c.loop-event.slots.items c.add_event.new.slots.items c.args.events.now c.loop-event.event-index _ c.loop-event.invariant c.loop-event-test.true
    (c.requires c.loop-event.event-index _ c.loop-event-test.true) c.in_ok-add_event.ensures
