-- The values of inputs are bytes, and what a direct access reads has as many bytes as it asks for.
use Rattle.std.proofs.Common.{◌≡◌, ◌∙◌, ℕ, zero, suc, ◌+◌, ◌-◌, ◌*◌, ◌^◌, ◌<◌, ◌≤◌, Bool, true, false, List, [], ◌∷◌, length, get_or, Option, Some, None, refl, sym, ap, subst, arith}
use Rattle.std.proofs.Math.Nat.{pow-succ'}
use Rattle.std.specs.Prelude.{All, not, nat_le, nat_lt, ◌==◌, ◌&&◌, map, unwrap_or, slice_index, if◌then◌else◌}
use Rattle.std.specs.List.{fold, find, range_with_len}
use Rattle.std.specs.Option.{option_map, option_or}
use Rattle.std.specs.Str.{bytes_eq}
use Rattle.std.proofs.lemmas.Bool.Decides.{nat_tests}
use Rattle.std.proofs.lemmas.List.Elements.{All-cons, All-head, All-tail}
use Rattle.s7_events.specs.declared.entry.Side.{Side}
use Rattle.s7_events.specs.declared.entry.Side.TheVariants.{A, B}
use Rattle.plant_script.specs.declared.plan.Module.{Module}
use Rattle.plant_script.specs.declared.plan.Event.{Event}
use Rattle.plant_script.specs.declared.plan.What.{What}
use Rattle.plant_script.specs.declared.plan.What.TheVariants.{Input, Alarm, Job, Fail, Return, Suspect}
use Rattle.plant_script.specs.Form.{IsWritten}
use Rattle.plant_script.specs.Plan.{Plan, IsPlan}
use Rattle.plant_script.specs.Values.{same_choice, value_given, value_by_event, last_value}
use Rattle.plant_io.specs.PlantValue.{side_named, byte_of, is_reachable, byte_at, side_bytes}
use Rattle.plant_io.specs.PairValue.{PairState, Standing, of_side, time_of, is_redundant, step_of}
use Rattle.plant_io.specs.Inputs.{held_byte, number_of, number_in, answers, input_read}
use Rattle.plant_io.proofs.Found.{HasAll, found_passes, has_all, below_more, below_four}

abbrev pub IsByte : ℕ → Type 0
IsByte b = b < 256

-- the value of each module is of bytes
abbrev pub AreBytes : (Module → PairState) → Type 0
AreBytes states = (m : Module) → All IsByte (states m).bytes

none_small : All IsByte []
none_small = λ k d less. absurd (omega arith)

-- of a script --

abbrev IfByte : Option ℕ → Type 0
IfByte None = Unit {0}
IfByte (Some v) = v < 256

by_test : (b : Bool) (v : ℕ) → v < 256 → IfByte (if b then Some v else None)
by_test true v h = h
by_test false v h = tt

given_byte : (at_byte : ℕ) (side : Option Side) (what : What) → IsWritten what → IfByte (value_given at_byte side what)
given_byte at_byte side (Input place other value) h = by_test (place == at_byte && same_choice other side) value h
given_byte at_byte side (Alarm ob info) h = tt
given_byte at_byte side (Job job) h = tt
given_byte at_byte side (Fail other late) h = tt
given_byte at_byte side (Return other fresh) h = tt
given_byte at_byte side (Suspect other pass) h = tt

when_due : (b : Bool) (o : Option ℕ) → IfByte o → IfByte (if b then o else None)
when_due true o h = h
when_due false o h = tt

or_byte : (o p : Option ℕ) → IfByte o → IfByte p → IfByte (option_or o p)
or_byte None p h i = i
or_byte (Some v) p h i = h

last_from : (at_byte : ℕ) (side : Option Side) (moment : ℕ) (before : Option ℕ) (events : List Event) → IfByte before → All (λ event. IsWritten event.what) events
    → IfByte (fold (λ before event. option_or (value_by_event at_byte side moment event) before) before events)
last_from at_byte side moment before [] h all = h
last_from at_byte side moment before (event ∷ events) h all =
    last_from at_byte side moment (option_or (value_by_event at_byte side moment event) before) events
    (or_byte (value_by_event at_byte side moment event) before
    (when_due (nat_le event.moment moment) (value_given at_byte side event.what) (given_byte at_byte side event.what (All-head (λ (e : Event). IsWritten e.what) event events all))) h)
    (All-tail (λ (e : Event). IsWritten e.what) event events all)

or_zero : (o : Option ℕ) → IfByte o → unwrap_or o 0 < 256
or_zero None h = omega arith
or_zero (Some v) h = h

byte_small : (plan : Plan) (m : Module) (side : Side) (at_byte moment : ℕ) → IsPlan plan → byte_of plan m side at_byte moment < 256
byte_small plan m side at_byte moment fine =
    or_zero (last_value plan.events at_byte (side_named m.kind side) moment) (last_from at_byte (side_named m.kind side) moment None plan.events tt fine.events.form)

at_small : (b : Bool) (n : ℕ) → n < 256 → (if b then n else 0) < 256
at_small true n h = h
at_small false n h = omega arith

all_map : (f : ℕ → ℕ) (xs : List ℕ) → ((n : ℕ) → f n < 256) → All IsByte (map f xs)
all_map f [] h = none_small
all_map f (x ∷ xs) h = All-cons IsByte (f x) (map f xs) (h x) (all_map f xs h)

side_small : (plan : Plan) (m : Module) (side : Side) (moment : ℕ) → IsPlan plan → All IsByte (side_bytes plan m side moment)
unfolding side_bytes
side_small plan m side moment fine =
    all_map (byte_at plan m side moment) (range_with_len 0 64) (λ i. at_small (nat_lt i m.len) (byte_of plan m side (m.at_byte + i) moment) (byte_small plan m side (m.at_byte + i) moment fine))

-- of a pair --

of_master : (s : Side) (a b : List ℕ) → All IsByte a → All IsByte b → All IsByte (of_side s a b)
of_master A a b h i = h
of_master B a b h i = i

either : (c : Bool) (a b : List ℕ) → All IsByte a → All IsByte b → All IsByte (if c then a else b)
either true a b h i = h
either false a b h i = i

step_by : (p q r : Bool) (a b x : List ℕ) (n : ℕ) (before : PairState) → All IsByte a → All IsByte b → All IsByte x
    → All IsByte (if not p then record before { run = 0; bytes = b } else if not q then record before { run = 0; bytes = a } else if r then record before { run = 0; bytes = a } else record before { run = n; bytes = x }).bytes
step_by false q r a b x n before of_a of_b of_x = of_b
step_by true false r a b x n before of_a of_b of_x = of_a
step_by true true true a b x n before of_a of_b of_x = of_a
step_by true true false a b x n before of_a of_b of_x = of_x

pub step_small : (plan : Plan) (m : Module) (now : Standing) (moment : ℕ) (before : PairState) → IsPlan plan → All IsByte before.bytes → All IsByte (step_of plan m now moment before).bytes
step_small plan m now moment before fine h =
    let a = side_bytes plan m A moment in
    let b = side_bytes plan m B moment in
    let of_a : All IsByte a = side_small plan m A moment fine in
    let of_b : All IsByte b = side_small plan m B moment fine in
    step_by now.a_runs now.b_runs (bytes_eq a b) a b (if nat_lt (before.run + 1) (time_of m.kind) then before.bytes else of_side now.master a b) (before.run + 1) (record before { first = m.at_byte })
    of_a of_b (either (nat_lt (before.run + 1) (time_of m.kind)) before.bytes (of_side now.master a b) h (of_master now.master a b of_a of_b))

-- of a module --

read_small : (xs : List ℕ) (i : ℕ) → All IsByte xs → get_or xs i 0 < 256
read_small [] zero h = omega arith
read_small [] (suc i) h = omega arith
read_small (x ∷ xs) zero h = All-head IsByte x xs h
read_small (x ∷ xs) (suc i) h = read_small xs i (All-tail IsByte x xs h)

held_by_tests : (p q : Bool) (x y : ℕ) → x < 256 → y < 256 → (if not p then 0 else if q then x else y) < 256
held_by_tests false q x y h i = omega arith
held_by_tests true true x y h i = h
held_by_tests true false x y h i = i

held_small : (plan : Plan) (a b : Bool) (states : Module → PairState) (moment : ℕ) (m : Module) (at_byte : ℕ) → IsPlan plan → AreBytes states
    → held_byte plan a b (states m) moment m at_byte < 256
held_small plan a b states moment m at_byte fine small =
    held_by_tests (is_reachable m.kind a b) (is_redundant m.kind) (slice_index (states m).bytes (at_byte - m.at_byte)) (byte_of plan m A at_byte moment)
    (read_small (states m).bytes (at_byte - m.at_byte) (small m)) (byte_small plan m A at_byte moment fine)

suc_power : (n : ℕ) → 256 ^ suc n ≡ 256 * 256 ^ n
suc_power n = pow-succ' 256 n

number_small : (bytes : ℕ → ℕ) (n : ℕ) → ((i : ℕ) → bytes i < 256) → number_of bytes n < 256 ^ n
number_small bytes zero h = omega arith
number_small bytes (suc n) h = omega (arith, suc_power n, number_small bytes n h, h n)

record ReadOf (plan : Plan) (a b : Bool) (states : Module → PairState) (moment addr width value : ℕ) : Type 0 where
  m : Module
  found : find (answers true a b addr width) plan.modules ≡ Some m
  is : number_in plan a b states moment addr width m ≡ value

read_by : (plan : Plan) (a b : Bool) (states : Module → PairState) (moment addr width value : ℕ) (o : Option Module) → find (answers true a b addr width) plan.modules ≡ o
    → option_map (number_in plan a b states moment addr width) o ≡ Some value → ReadOf plan a b states moment addr width value
read_by plan a b states moment addr width value None found is = absurd cc
read_by plan a b states moment addr width value (Some m) found is = record { m = m; found = found; is = cc }

read_of : (plan : Plan) (a b : Bool) (states : Module → PairState) (moment addr width value : ℕ) → input_read plan a b states moment addr width ≡ Some value
    → ReadOf plan a b states moment addr width value
unfolding input_read
read_of plan a b states moment addr width value is = read_by plan a b states moment addr width value (find (answers true a b addr width) plan.modules) refl is

pub record IsRead (width value : ℕ) : Type 0 where
  pub narrow : width ≤ 4
  pub below : value < 256 ^ width

pub read_is : (plan : Plan) (a b : Bool) (states : Module → PairState) (moment addr width value : ℕ) → IsPlan plan → AreBytes states
    → input_read plan a b states moment addr width ≡ Some value → IsRead width value
read_is plan a b states moment addr width value fine small is =
    let of = read_of plan a b states moment addr width value is in
    let all = has_all a b addr width of.m (found_passes (answers true a b addr width) plan.modules of.m of.found) in
    record {
      narrow = all.narrow;
      below = subst (λ n. n < 256 ^ width) of.is (number_small (λ i. held_byte plan a b (states of.m) moment of.m (addr + i)) width (λ i. held_small plan a b states moment of.m (addr + i) fine small));
    }

-- it has 4 bytes at most
pub read_four : (width value : ℕ) → IsRead width value → value < 256 ^ 4
read_four width value h = below_four width value h.narrow h.below

fits_by : (width value : ℕ) → width ≤ 4 → value < 256 ^ width → nat_lt value (2 ^ (8 * width)) ≡ true
fits_by zero value few less = grind (arith, nat_tests)
fits_by (suc zero) value few less = grind (arith, nat_tests)
fits_by (suc (suc zero)) value few less = grind (arith, nat_tests)
fits_by (suc (suc (suc zero))) value few less = grind (arith, nat_tests)
fits_by (suc (suc (suc (suc zero)))) value few less = grind (arith, nat_tests)
fits_by (suc (suc (suc (suc (suc n))))) value few less = absurd (omega (arith, few))

-- it has as many bytes as are asked for
pub read_fits : (width value : ℕ) → IsRead width value → nat_lt value (2 ^ (8 * width)) ≡ true
read_fits width value h = fits_by width value h.narrow h.below
