-- A difference between the sides that lasts for some moments in a row.
use Rattle.std.specs.Prelude.{◌≡◌, ℕ, zero, suc, ◌+◌, ◌<◌, ◌≤◌, ◌==◌, true, false}
use Rattle.std.specs.Str.{bytes_eq}
use Rattle.s7_events.specs.declared.entry.Side.TheVariants.{A, B}
use Rattle.plant_script.specs.declared.plan.Module.{Module}
use Rattle.plant_script.specs.Plan.{Plan}
use Rattle.plant_io.specs.PlantValue.{side_bytes}
use Rattle.plant_io.specs.PairValue.{PairState, Standing, of_side, time_of, step_of, is_due_of, is_reached, pair_before}

-- both sides run at the moment, and read different bytes
pub record Differ (plan : Plan) (m : Module) (standing : ℕ → Standing) (moment : ℕ) : Type 0 where
  pub a_runs : (standing moment).a_runs ≡ true
  pub b_runs : (standing moment).b_runs ≡ true
  pub unequal : bytes_eq (side_bytes plan m A moment) (side_bytes plan m B moment) ≡ false

-- they did not at the moment before, if there is one
abbrev pub BeginsAt : Plan → Module → (ℕ → Standing) → ℕ → Type 0
BeginsAt plan m standing zero = Unit {0}
BeginsAt plan m standing (suc before) = Differ plan m standing before → ⊥

-- they differ for this many moments in a row, and did not before these
pub record DifferFor (plan : Plan) (m : Module) (standing : ℕ → Standing) (from count : ℕ) : Type 0 where
  pub begins : BeginsAt plan m standing from
  pub each : (j : ℕ) → from ≤ j → j < from + count → Differ plan m standing j

-- for a shorter time than the discrepancy time the pair keeps its value
abbrev pub KeepsValue : Plan → Module → (ℕ → Standing) → ℕ → ℕ → Type 0
KeepsValue plan m standing from count = DifferFor plan m standing from count → count < time_of m.kind
    → (pair_before plan m standing (from + count)).bytes ≡ (pair_before plan m standing from).bytes

-- from then on it has, after each moment, the bytes of the side that was master there
abbrev pub TakesMaster : Plan → Module → (ℕ → Standing) → ℕ → ℕ → Type 0
TakesMaster plan m standing from count = DifferFor plan m standing from (count + 1) → time_of m.kind ≤ count + 1
    → (pair_before plan m standing (from + count + 1)).bytes
    ≡ of_side (standing (from + count)).master (side_bytes plan m A (from + count)) (side_bytes plan m B (from + count))

-- OB70 is due at the one moment at which the difference has lasted as long as the discrepancy time
abbrev pub IsDueOnce : Plan → Module → (ℕ → Standing) → ℕ → ℕ → Type 0
IsDueOnce plan m standing from count = DifferFor plan m standing from (count + 1)
    → is_due_of m.kind (pair_before plan m standing (from + count)) (pair_before plan m standing (from + count + 1)) ≡ (count + 1 == time_of m.kind)

-- OB70 becomes due by a moment exactly where the state after it says that the discrepancy time is reached
abbrev pub IsDueWhenReached : Plan → Module → Standing → ℕ → PairState → Type 0
IsDueWhenReached plan m now moment before =
    is_due_of m.kind before (step_of plan m now moment before) ≡ is_reached m.kind (step_of plan m now moment before)
