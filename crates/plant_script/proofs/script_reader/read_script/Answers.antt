use Rattle.std.proofs.Common.{◌≡◌, None, sym, ap, ◌∙◌}
use Rattle.plant_script.specs.Plan.{no_failures}
use Rattle.plant_script.specs.SecondPass.{events_fault, unbuilt_line}
use Rattle.plant_script.specs.Gives.{plan_of}
use Rattle.plant_script.proofs.Whole.{plan_is}
use Rattle.plant_script.proofs.script_reader.read_script.Goals as goal

pub new-requires : goal.new-requires
new-requires c =
    let plan = plan_of c.in_ok-parts.parts in
    let order : events_fault plan.end no_failures plan.events ≡ None =
    ap (λ events. events_fault plan.end no_failures events) (sym c.deref.ensures.value) ∙ sym c.in_default.ensures in
    let built : unbuilt_line plan.events ≡ None =
    ap (λ events. unbuilt_line events) (sym c.deref-2.ensures.value) ∙ sym c.in_default-unbuilt_line.ensures in
    plan_is plan c.in_ok-parts.ensures.sound order built
