-- What the pair makes of a REDUNDANT module of inputs.
use Rattle.std.specs.Prelude.{◌≡◌, ℕ, zero, suc, ◌+◌, ◌==◌, ◌&&◌, Bool, true, false, not, List, replicate, slice_get, IsSomeAnd, nat_lt, if◌then◌else◌}
use Rattle.std.specs.Str.{bytes_eq}
use Rattle.s7_events.specs.declared.entry.Side.{Side}
use Rattle.s7_events.specs.declared.entry.Side.TheVariants.{A, B}
use Rattle.plant_script.specs.declared.plan.Module.{Module}
use Rattle.plant_script.specs.declared.plan.ModuleKind.{ModuleKind}
use Rattle.plant_script.specs.declared.plan.ModuleKind.TheVariants.{Switched, OneSided, Redundant}
use Rattle.plant_script.specs.Plan.{Plan}
use Rattle.plant_io.specs.PlantValue.{side_bytes}

-- for how many moments in a row the sides have differed, the module's first byte, and the value that the pair takes
pub record PairState : Type 0 where
  pub run : ℕ
  pub first : ℕ
  pub bytes : List ℕ

-- which sides run at a moment, and which of them is master
pub record Standing : Type 0 where
  pub a_runs : Bool
  pub b_runs : Bool
  pub master : Side

-- before the first moment
abbrev pub fresh : PairState
fresh = record { run = 0; first = 0; bytes = replicate 64 0 }

-- what belongs to a side
abbrev pub of_side : {T : Type 0} → Side → T → T → T
of_side A a b = a
of_side B a b = b

-- the master runs
abbrev pub master_runs : Standing → Bool
master_runs standing = of_side standing.master standing.a_runs standing.b_runs

-- the sides differ: the value stays while they have for a shorter time, and then is the master's
abbrev pub differing : ℕ → List ℕ → List ℕ → Side → PairState → PairState
differing time a b master before =
    record before { run = before.run + 1; bytes = if nat_lt (before.run + 1) time then before.bytes else of_side master a b }

-- one moment, at which the sides read these bytes
abbrev pub pair_step : ℕ → List ℕ → List ℕ → Standing → PairState → PairState
pair_step time a b standing before =
    if not standing.a_runs then record before { run = 0; bytes = b }
    else if not standing.b_runs then record before { run = 0; bytes = a }
    else if bytes_eq a b then record before { run = 0; bytes = a }
    else differing time a b standing.master before

-- the difference has come to last as long as the discrepancy time
abbrev pub is_due : ℕ → PairState → PairState → Bool
is_due time before after = nat_lt before.run after.run && (after.run == time)

-- the discrepancy time of a REDUNDANT module
abbrev pub time_of : ModuleKind → ℕ
time_of Switched = 0
time_of (OneSided side) = 0
time_of (Redundant time) = time

abbrev pub step_of : Plan → Module → Standing → ℕ → PairState → PairState
step_of plan m standing moment before =
    pair_step (time_of m.kind) (side_bytes plan m A moment) (side_bytes plan m B moment) standing (record before { first = m.at_byte })

abbrev pub is_due_of : ModuleKind → PairState → PairState → Bool
is_due_of kind before after = is_due (time_of kind) before after

-- the sides have differed for just as many moments in a row as the discrepancy time
abbrev pub is_reached : ModuleKind → PairState → Bool
is_reached kind state = nat_lt 0 state.run && (state.run == time_of kind)

-- the state before a moment, with the standing at each moment
abbrev pub pair_before : Plan → Module → (ℕ → Standing) → ℕ → PairState
pair_before plan m standing zero = fresh
pair_before plan m standing (suc moment) = step_of plan m (standing moment) moment (pair_before plan m standing moment)

abbrev pub is_redundant : ModuleKind → Bool
is_redundant Switched = false
is_redundant (OneSided side) = false
is_redundant (Redundant time) = true

-- a REDUNDANT module of inputs stands in this place
abbrev pub IsRedundantInput : Plan → ℕ → Type 0
IsRedundantInput plan index =
    IsSomeAnd (slice_get plan.modules index) (λ m. (m.input ≡ true) × (is_redundant m.kind ≡ true))
