use Rattle.plant_script.proofs.Whole.{are_below}
use Rattle.plant_script.proofs.script.Script.new.Goals as goal

pub new-requires : goal.new-requires
new-requires c = rw c.deref.ensures.value (are_below (record { modules = c.args.modules.items; events = c.args.events.items; end = c.args.end }) c.requires)
