use Rattle.std.proofs.Common.{◌≡◌, drop}
use Rattle.plant_script.specs.Plan.{no_failures}
use Rattle.plant_script.specs.SecondPass.{events_fault}
use Rattle.plant_script.proofs.second_pass.events_fault.Given as goal

abbrev pub invariant-loop-event : goal.invariant-loop-event
invariant-loop-event l = events_fault l.end l.failures (drop l.event-index l.events) ≡ events_fault l.end no_failures l.events
