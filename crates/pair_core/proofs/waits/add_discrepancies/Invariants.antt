-- The modules before the place were looked at.
use Rattle.std.proofs.Common.{◌≡◌, take}
use Rattle.std.specs.Prelude.{map, filter}
use Rattle.plant_script.specs.declared.plan.Module.{Module}
use Rattle.plant_io.specs.PairValue.{PairState}
use Rattle.plant_io.specs.Inputs.{is_due_at, AreStates}
use Rattle.alarm_queue.specs.Order.{add_all}
use Rattle.pair_core.specs.Waits.{discrepancy_at}
use Rattle.pair_core.proofs.waits.add_discrepancies.Given as goal

abbrev pub invariant-loop-place : goal.invariant-loop-place
invariant-loop-place l = record {
  waiting : (states : Module → PairState) → AreStates l.script.modules states l.inputs.states
      → l.waiting.waiting ≡ add_all (map (discrepancy_at l.k) (filter (λ m. is_due_at m (states m)) (take l.place l.script.modules))) l.initial.waiting.waiting;
  schedule : l.waiting.schedule ≡ l.initial.waiting.schedule;
  moment : l.waiting.moment ≡ l.initial.waiting.moment;
  left : l.waiting.redundancy_left ≡ l.initial.waiting.redundancy_left;
}
