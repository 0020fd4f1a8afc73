-- One module more was looked at.
use Rattle.std.proofs.Common.{◌≡◌, ◌∙◌, ◌<◌, List, length, refl, ap, subst, arith}
use Rattle.std.specs.Prelude.{map, filter}
use Rattle.plant_script.specs.declared.plan.Module.{Module}
use Rattle.pair_core.proofs.Discrepancies.{one_more_at}
use Rattle.pair_core.proofs.waits.add_discrepancies.Goals as goal

pub loop-place-init : goal.loop-place-init
loop-place-init c = record { waiting = λ states h. refl; schedule = refl; moment = refl; left = refl }

pub loop-place-preserved : goal.loop-place-preserved
loop-place-preserved c =
    let now = c.add_discrepancy.ensures in
    let was = c.loop-place.invariant in
    record {
      waiting = λ states h. one_more_at c.args.script.now.modules c.loop-place.place c.args.k states c.args.waiting.now.waiting c.loop-place.waiting.waiting c.add_discrepancy.new.waiting.waiting
          (omega (arith, c.loop-place-test.true, ap (λ (ms : List Module). length ms) c.modules-place-end.ensures.list)) (was.waiting states h) (now.waiting states h);
      schedule = now.schedule ∙ was.schedule;
      moment = now.moment ∙ was.moment;
      left = now.left ∙ was.left;
    }

pub add_discrepancy-requires-clause-lines : goal.add_discrepancy-requires-clause-lines
add_discrepancy-requires-clause-lines c = ap (λ s. s.modules) c.loop-place.invariant.schedule ∙ c.requires.lines
