use Rattle.std.proofs.Common.{◌≡◌, ℕ, ◌+◌, ◌-◌, ◌≤◌, ◌<◌, length, get_or}
use Rattle.plant_script.specs.declared.input_index.Setting.{Setting}
use Rattle.plant_script.specs.InputIndex.{AreRising}
use Rattle.plant_script.proofs.input_index.Slot.count_until.Given as goal

abbrev pub invariant-loop-low : goal.invariant-loop-low
invariant-loop-low l = record {
  order : l.low ≤ l.high;
  within : l.high ≤ length l.self;
  before : AreRising l.self → (d : Setting) (k : ℕ) → k < l.low → (get_or l.self k d).moment ≤ l.k;
  behind : AreRising l.self → (d : Setting) (k : ℕ) → l.high ≤ k → k < length l.self → l.k < (get_or l.self k d).moment;
}

abbrev pub decreases-loop-low : goal.decreases-loop-low
decreases-loop-low l = l.high - l.low
