-- An area whose bytes are those of its parts, all of one width.
use Rattle.std.proofs.Common.{◌≡◌, ℕ, zero, suc, ◌+◌, ◌*◌, ◌/◌, ◌%◌, ◌-◌, ◌<◌, ◌≤◌, List, [], ◌∷◌, ◌++◌, length, Some, None, refl, ap, ◌∙◌, arith, slice_get, zero-add}
use Rattle.std.specs.Prelude.{flat_map}
use Rattle.std.specs.Option.{option_and_then}
use Rattle.timers.specs.State.{TimerState}
use Rattle.timers.specs.Bytes as timer_form
use Rattle.counters.specs.State.{CounterState}
use Rattle.counters.specs.Bytes as counter_form

get_left : (xs ys : List ℕ) (i : ℕ) → i < length xs → slice_get (xs ++ ys) i ≡ slice_get xs i
get_left [] ys i lt = absurd (omega arith)
get_left (x ∷ xs) ys zero lt = refl
get_left (x ∷ xs) ys (suc i) lt = get_left xs ys i (omega arith)

get_right : (xs ys : List ℕ) (i : ℕ) → slice_get (xs ++ ys) (length xs + i) ≡ slice_get ys i
get_right [] ys i = ap (slice_get ys) (zero-add i)
get_right (x ∷ xs) ys i =
    let e : suc (length xs) + i ≡ suc (length xs + i) = omega arith in
    ap (slice_get (x ∷ (xs ++ ys))) e ∙ get_right xs ys i

-- a byte of the first part of a list whose first part has this length, and one behind it
pub front_byte : (xs ys : List ℕ) (i : ℕ) → length xs ≡ 24 → i < 24 → slice_get (xs ++ ys) i ≡ slice_get xs i
front_byte xs ys i long lt = get_left xs ys i (omega arith)

pub back_byte : (xs ys : List ℕ) (i : ℕ) → length xs ≡ 24 → 24 ≤ i → slice_get (xs ++ ys) i ≡ slice_get ys (i - 24)
back_byte xs ys i long le =
    let e : i ≡ length xs + (i - 24) = omega arith in
    ap (slice_get (xs ++ ys)) e ∙ get_right xs ys (i - 24)

-- the byte r of part q
part_byte : {X : Type 0} (f : X → List ℕ) (w : ℕ) (xs : List X) (q r : ℕ) → ((x : X) → length (f x) ≡ w) → r < w
    → slice_get (flat_map f xs) (q * w + r) ≡ option_and_then (λ x. slice_get (f x) r) (slice_get xs q)
part_byte f w [] q r long lt = refl
part_byte f w (x ∷ xs) zero r long lt =
    let e : zero * w + r ≡ r = omega arith in
    let l = long x in
    ap (slice_get (f x ++ flat_map f xs)) e ∙ get_left (f x) (flat_map f xs) r (omega arith)
part_byte f w (x ∷ xs) (suc q) r long lt =
    let l = long x in
    let e : suc q * w + r ≡ length (f x) + (q * w + r) = omega arith in
    ap (slice_get (f x ++ flat_map f xs)) e ∙ get_right (f x) (flat_map f xs) (q * w + r) ∙ part_byte f w xs q r long lt

byte_of_part : {X : Type 0} (f : X → List ℕ) (w : ℕ) (xs : List X) (at q r : ℕ) → ((x : X) → length (f x) ≡ w) → r < w → at ≡ q * w + r
    → slice_get (flat_map f xs) at ≡ option_and_then (λ x. slice_get (f x) r) (slice_get xs q)
byte_of_part f w xs at q r long lt e = ap (slice_get (flat_map f xs)) e ∙ part_byte f w xs q r long lt

timer_length : (t : TimerState) → length (timer_form.bytes_of t) ≡ 24
timer_length t = refl

counter_length : (c : CounterState) → length (counter_form.bytes_of c) ≡ 4
counter_length c = refl

timer_part : (ts : List TimerState) (at : ℕ) → slice_get (flat_map timer_form.bytes_of ts) at ≡ option_and_then (λ t. slice_get (timer_form.bytes_of t) (at % 24)) (slice_get ts (at / 24))
timer_part ts at = byte_of_part timer_form.bytes_of 24 ts at (at / 24) (at % 24) timer_length (omega arith) (omega arith)

pub no_timer_byte : (ts : List TimerState) (at : ℕ) → slice_get ts (at / 24) ≡ None → slice_get (flat_map timer_form.bytes_of ts) at ≡ None
no_timer_byte ts at e = timer_part ts at ∙ ap (option_and_then (λ t. slice_get (timer_form.bytes_of t) (at % 24))) e

pub timer_byte : (ts : List TimerState) (at : ℕ) (t : TimerState) → slice_get ts (at / 24) ≡ Some t → slice_get (flat_map timer_form.bytes_of ts) at ≡ slice_get (timer_form.bytes_of t) (at % 24)
timer_byte ts at t e = timer_part ts at ∙ ap (option_and_then (λ t. slice_get (timer_form.bytes_of t) (at % 24))) e

counter_part : (cs : List CounterState) (at : ℕ) → slice_get (flat_map counter_form.bytes_of cs) at ≡ option_and_then (λ c. slice_get (counter_form.bytes_of c) (at % 4)) (slice_get cs (at / 4))
counter_part cs at = byte_of_part counter_form.bytes_of 4 cs at (at / 4) (at % 4) counter_length (omega arith) (omega arith)

pub no_counter_byte : (cs : List CounterState) (at : ℕ) → slice_get cs (at / 4) ≡ None → slice_get (flat_map counter_form.bytes_of cs) at ≡ None
no_counter_byte cs at e = counter_part cs at ∙ ap (option_and_then (λ c. slice_get (counter_form.bytes_of c) (at % 4))) e

pub counter_byte : (cs : List CounterState) (at : ℕ) (c : CounterState) → slice_get cs (at / 4) ≡ Some c → slice_get (flat_map counter_form.bytes_of cs) at ≡ slice_get (counter_form.bytes_of c) (at % 4)
counter_byte cs at c e = counter_part cs at ∙ ap (option_and_then (λ c. slice_get (counter_form.bytes_of c) (at % 4))) e
