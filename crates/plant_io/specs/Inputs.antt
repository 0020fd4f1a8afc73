-- The inputs of a script's modules: what the pair makes of the REDUNDANT ones, the input image, and direct access.
use Rattle.std.specs.Prelude.{◌≡◌, ℕ, zero, suc, ◌+◌, ◌-◌, ◌*◌, ◌<◌, ◌≤◌, ◌&&◌, Bool, true, false, not, nat_le, if◌then◌else◌, List, map, filter, length, All, Option, Some, None, slice_get, slice_index, slice_index_or, IsSomeAnd}
use Rattle.std.specs.List.{find, list_any, range_with_len}
use Rattle.std.specs.Option.{option_map}
use Rattle.s7_events.specs.declared.entry.Side.TheVariants.{A}
use Rattle.plant_script.specs.declared.plan.Module.{Module}
use Rattle.plant_script.specs.Plan.{Plan, has_input}
use Rattle.plant_io.specs.PlantValue.{byte_of, is_reachable}
use Rattle.plant_io.specs.PairValue.{PairState, Standing, fresh, step_of, pair_before, is_reached, is_redundant}

-- what the pair makes of the modules --

-- a REDUNDANT module of inputs
abbrev pub is_paired : Module → Bool
is_paired m = m.input && is_redundant m.kind

-- the state of each module before the first moment
abbrev pub no_states : Module → PairState
no_states m = fresh

-- the state of each module after a moment at which these run, by its state before it; that of a module that is not a REDUNDANT one
-- of inputs is used nowhere
abbrev pub stepped : Plan → Standing → ℕ → (Module → PairState) → Module → PairState
stepped plan now moment before m = step_of plan m now moment (before m)

-- the state of each module before a moment, with the standing at each moment
abbrev pub states_before : Plan → (ℕ → Standing) → ℕ → Module → PairState
states_before plan standing moment m = pair_before plan m standing moment

-- OB70 becomes due at this module, whose state this is after the moment
abbrev pub is_due_at : Module → PairState → Bool
is_due_at m state = is_paired m && is_reached m.kind state

-- the modules at which OB70 becomes due, with the state of each after the moment, in the order of their lines
abbrev pub modules_due : Plan → (Module → PairState) → List Module
modules_due plan states = filter (λ m. is_due_at m (states m)) plan.modules

-- the values --

-- a byte of a module of inputs at a moment, after which this is its state: 0 where the module is not reached; of a REDUNDANT one what
-- the pair takes; else the plant value
abbrev pub held_byte : Plan → Bool → Bool → PairState → ℕ → Module → ℕ → ℕ
held_byte plan a_runs b_runs state moment m at_byte =
    if not (is_reachable m.kind a_runs b_runs) then 0
    else if is_redundant m.kind then slice_index state.bytes (at_byte - m.at_byte)
    else byte_of plan m A at_byte moment

-- the byte of the module, with the state of each module after the moment
abbrev pub held_by : Plan → Bool → Bool → (Module → PairState) → ℕ → ℕ → Option Module → ℕ
held_by plan a_runs b_runs states moment at_byte None = 0
held_by plan a_runs b_runs states moment at_byte (Some m) = held_byte plan a_runs b_runs (states m) moment m at_byte

-- a byte of the input image: that of the module of inputs that has it, 0 where none does
abbrev pub image_byte : Plan → Bool → Bool → (Module → PairState) → ℕ → ℕ → ℕ
image_byte plan a_runs b_runs states moment at_byte =
    held_by plan a_runs b_runs states moment at_byte (find (has_input at_byte) plan.modules)

-- the 64 bytes of the input image at a moment
unfoldable pub input_image : Plan → Bool → Bool → (Module → PairState) → ℕ → List ℕ
input_image plan a_runs b_runs states moment = map (image_byte plan a_runs b_runs states moment) (range_with_len 0 64)

-- direct access --

-- a module of this direction that is reached and has all bytes from an address on, of which there are so many; an access is of 4 bytes
-- at most
abbrev pub answers : Bool → Bool → Bool → ℕ → ℕ → Module → Bool
answers input a_runs b_runs addr width m =
    nat_le width 4 && (if input then m.input else not m.input) && nat_le m.at_byte addr && nat_le (addr + width) (m.at_byte + m.len)
    && is_reachable m.kind a_runs b_runs

-- the number that bytes spell, the highest first
abbrev pub number_of : (ℕ → ℕ) → ℕ → ℕ
number_of bytes zero = 0
number_of bytes (suc n) = 256 * number_of bytes n + bytes n

-- what a direct access reads of a module
abbrev pub number_in : Plan → Bool → Bool → (Module → PairState) → ℕ → ℕ → ℕ → Module → ℕ
number_in plan a_runs b_runs states moment addr width m = number_of (λ i. held_byte plan a_runs b_runs (states m) moment m (addr + i)) width

-- what a direct access reads: the number of a single module of inputs that is reached and has all bytes, if there is one
unfoldable pub input_read : Plan → Bool → Bool → (Module → PairState) → ℕ → ℕ → ℕ → Option ℕ
input_read plan a_runs b_runs states moment addr width =
    option_map (number_in plan a_runs b_runs states moment addr width) (find (answers true a_runs b_runs addr width) plan.modules)

-- a direct access may write: a single module of outputs that is reached has all bytes
unfoldable pub takes_output : Plan → Bool → Bool → ℕ → ℕ → Bool
takes_output plan a_runs b_runs addr width = list_any (answers false a_runs b_runs addr width) plan.modules

-- what is kept --

-- the states of all modules after the moments before this one
pub record InputsKept : Type 0 where
  pub states : List PairState
  pub moment : ℕ

-- there is one for each module, and that of each REDUNDANT module of inputs is this
pub record AreStates (modules : List Module) (states : Module → PairState) (kept : List PairState) : Type 0 where
  pub size : length kept ≡ length modules
  pub each : (i : ℕ) (m : Module) → slice_get modules i ≡ Some m → is_paired m ≡ true → slice_get kept i ≡ Some (states m)

-- no difference has lasted for more moments than there were
abbrev pub AreWithin : ℕ → List PairState → Type 0
AreWithin moment kept = All (λ state. state.run ≤ moment) kept

-- moment by moment, with places of modules --

-- the state of a module after a moment; that of a module that is not a REDUNDANT one of inputs stays
abbrev pub step_module : Plan → Standing → ℕ → Module → PairState → PairState
step_module plan now moment m before = if is_paired m then step_of plan m now moment before else before

-- the states of the modules before a place are those after the moment, the others those before it
pub record IsStepped (plan : Plan) (now : Standing) (moment place : ℕ) (old new : List PairState) : Type 0 where
  pub size : length new ≡ length old
  pub done : (j : ℕ) (m : Module) → slice_get plan.modules j ≡ Some m → j < place
      → slice_index_or new j fresh ≡ step_module plan now moment m (slice_index_or old j fresh)
  pub rest : (j : ℕ) → place ≤ j → slice_index_or new j fresh ≡ slice_index_or old j fresh

-- so many states, all as before the first moment
pub record AreFresh (count : ℕ) (kept : List PairState) : Type 0 where
  pub size : length kept ≡ count
  pub each : (i : ℕ) → slice_index_or kept i fresh ≡ fresh

-- the module in a place is one of inputs, and has the byte
abbrev pub IsHeld : Plan → ℕ → ℕ → Type 0
IsHeld plan place at_byte =
    IsSomeAnd (slice_get plan.modules place) (λ m. (m.input ≡ true) × (m.at_byte ≤ at_byte) × (at_byte < m.at_byte + m.len))

-- it is one of inputs, and has so many bytes from an address on
abbrev pub AreHeld : Plan → ℕ → ℕ → ℕ → Type 0
AreHeld plan place addr width =
    IsSomeAnd (slice_get plan.modules place) (λ m. (m.input ≡ true) × (m.at_byte ≤ addr) × (addr + width ≤ m.at_byte + m.len))
