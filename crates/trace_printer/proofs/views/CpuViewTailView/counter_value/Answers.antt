-- The value of a counter of a subsystem is that of its tail.
use Rattle.std.proofs.Common.{◌≡◌, ◌≤◌, ℕ, zero, suc, List, [], ◌∷◌, Option, Some, None, length, refl, ◌∙◌, arith}
use Rattle.std.specs.Prelude.{map, slice_index, slice_index_or}
use Rattle.counters.specs.State.{CounterState, fresh}
use Rattle.mc_machine.specs.Stands.{Running, IsRunning, OfRunning, counter_of}
use Rattle.trace_text.specs.CpuTail.{tail_of}
use Rattle.std.proofs.lemmas.List.{length-map}
use Rattle.trace_printer.proofs.views.CpuViewTailView.counter_value.Goals as goal

value_at : (counters : List CounterState) (n : ℕ) → (slice_index_or counters n fresh).value ≡ slice_index (map (λ counter. counter.value) counters) n
value_at [] n = refl
value_at (counter ∷ counters) zero = refl
value_at (counter ∷ counters) (suc n) = value_at counters n

value_of_tail : (machine : Option Running) (n : ℕ) → IsRunning machine → counter_of machine n ≡ slice_index (tail_of machine).counters n
value_of_tail None n running = absurd cc
value_of_tail (Some r) n running = value_at r.config.memory.counters n

few_of_tail : (machine : Option Running) → OfRunning machine (λ running. length running.config.memory.counters ≡ 256) → length (tail_of machine).counters ≤ 256
few_of_tail None count = absurd count
few_of_tail (Some r) count = omega (arith, count, length-map r.config.memory.counters (λ (counter : CounterState). counter.value))

pub returns-clause-value : goal.returns-clause-value
returns-clause-value c = c.counter_value.ensures.value ∙ value_of_tail c.args.self.now.side.now.machine c.args.number c.args.self.now.running

pub returns-clause-count : goal.returns-clause-count
returns-clause-count c = few_of_tail c.args.self.now.side.now.machine c.counter_value.ensures.count
