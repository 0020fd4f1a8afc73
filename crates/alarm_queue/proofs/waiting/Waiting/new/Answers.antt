use Rattle.std.proofs.Common.{◌≡◌, true, sym, subst, arith}
use Rattle.plant_script.specs.Plan.{IsPlan}
use Rattle.alarm_queue.specs.Due.{rises_from}
use Rattle.alarm_queue.proofs.DueLaws.{rises}
use Rattle.alarm_queue.proofs.waiting.Waiting.new.Goals as goal

pub over-requires : goal.over-requires
over-requires c =
    let form : IsPlan c.args.script.now = c.events.ensures.form in
    subst (λ list. rises_from 0 list ≡ true) (sym c.events.ensures.list) (rises 0 c.args.script.now.events (λ k d less. omega arith) form.rising)
