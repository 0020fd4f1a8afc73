-- The values of a plant's inputs, and which modules are reached.
use Rattle.std.specs.Prelude.{ℕ, ◌+◌, ◌<◌, ◌≤◌, Bool, true, List, map, length, Option, Some, None, unwrap_or, slice_get, IsSomeAnd, nat_lt, if◌then◌else◌}
use Rattle.std.specs.List.{range_with_len}
use Rattle.s7_events.specs.declared.entry.Side.{Side}
use Rattle.s7_events.specs.declared.entry.Side.TheVariants.{A, B}
use Rattle.plant_script.specs.declared.plan.Module.{Module}
use Rattle.plant_script.specs.declared.plan.ModuleKind.{ModuleKind}
use Rattle.plant_script.specs.declared.plan.ModuleKind.TheVariants.{Switched, OneSided, Redundant}
use Rattle.plant_script.specs.Plan.{Plan}
use Rattle.plant_script.specs.Values.{last_value}

-- the script has a module in this place
abbrev pub HasModule : Plan → ℕ → Type 0
HasModule plan index = index < length plan.modules

-- it has one there, and this has the byte
abbrev pub HoldsByte : Plan → ℕ → ℕ → Type 0
HoldsByte plan index at_byte =
    IsSomeAnd (slice_get plan.modules index) (λ m. (m.at_byte ≤ at_byte) × (at_byte < m.at_byte + m.len))

-- the INPUT lines of a REDUNDANT module name their side, those of every other name none
abbrev pub side_named : ModuleKind → Side → Option Side
side_named Switched side = None
side_named (OneSided own) side = None
side_named (Redundant time) side = Some side

-- a byte of a module, on a side, at a moment: that of its last INPUT line not later than the moment, else 0
abbrev pub byte_of : Plan → Module → Side → ℕ → ℕ → ℕ
byte_of plan m side at_byte moment = unwrap_or (last_value plan.events at_byte (side_named m.kind side) moment) 0

-- a module of one side is reached while it runs, every other always
abbrev pub is_reachable : ModuleKind → Bool → Bool → Bool
is_reachable Switched a_runs b_runs = true
is_reachable (OneSided A) a_runs b_runs = a_runs
is_reachable (OneSided B) a_runs b_runs = b_runs
is_reachable (Redundant time) a_runs b_runs = true

-- byte i of a module, and 0 past its end
abbrev pub byte_at : Plan → Module → Side → ℕ → ℕ → ℕ
byte_at plan m side moment i = if nat_lt i m.len then byte_of plan m side (m.at_byte + i) moment else 0

-- the bytes of a module on a side, with zeros up to 64
unfoldable pub side_bytes : Plan → Module → Side → ℕ → List ℕ
side_bytes plan m side moment = map (byte_at plan m side moment) (range_with_len 0 64)
