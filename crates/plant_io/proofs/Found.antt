-- The module in the first place that passes, and what a number of bytes is.
use Rattle.std.proofs.Common.{◌≡◌, ◌∙◌, ℕ, zero, suc, ◌+◌, ◌-◌, ◌*◌, ◌^◌, ◌<◌, ◌≤◌, Bool, true, false, cond, List, [], ◌∷◌, length, get_or, Option, Some, None, refl, sym, ap, subst, arith, add-one, lit≤}
use Rattle.std.proofs.Math.Nat.{pow-succ'}
use Rattle.std.specs.Prelude.{All, IsSomeAnd, slice_get, slice_index, position, nat_le, nat_lt, ◌&&◌, not, if◌then◌else◌}
use Rattle.std.specs.List.{find, position_or_len}
use Rattle.std.specs.Option.{option_map}
use Rattle.std.proofs.lemmas.Bool.{leb-true, ltb-true, ltb-false, and_parts}
use Rattle.std.proofs.lemmas.List.Folds.{find_at}
use Rattle.std.proofs.lemmas.Option.{slice_get-get_or, slice_get_past, slice_get_within}
use Rattle.plant_script.specs.declared.plan.Module.{Module}
use Rattle.plant_script.specs.declared.plan.ModuleKind.TheVariants.{Switched}
use Rattle.plant_script.specs.Form.{IsModule}
use Rattle.plant_script.specs.Plan.{Plan, has_input}
use Rattle.s7_events.specs.declared.entry.Side.TheVariants.{A}
use Rattle.plant_io.specs.PlantValue.{is_reachable, byte_of}
use Rattle.plant_io.specs.PairValue.{PairState, is_redundant}
use Rattle.plant_io.proofs.States.{state_at}
use Rattle.plant_io.specs.Inputs.{is_paired, answers, AreStates, number_of, number_in, held_byte, held_by, input_read, AreHeld, IsHeld}

pub no_module : Module
no_module = record { line = 0; input = false; at_byte = 0; len = 0; kind = Switched }

-- the first place --

some_place : (b : Bool) (n i : ℕ) → cond b (Some n) None ≡ Some i → (n ≡ i) × (b ≡ true)
some_place true n i e = (cc, refl)
some_place false n i e = absurd cc

no_place : (b : Bool) (n : ℕ) → cond {A = Option ℕ} b (Some n) None ≡ None → b ≡ false
no_place true n e = absurd cc
no_place false n e = refl

pub found_at : (p : Module → Bool) (xs : List Module) (i : ℕ) → position p xs ≡ Some i → find p xs ≡ slice_get xs i
found_at p xs i e =
    let n = position_or_len p xs in
    find_at p xs ∙ ap (slice_get xs) (some_place (nat_lt n (length xs)) n i e).0

pub none_found : (p : Module → Bool) (xs : List Module) → position p xs ≡ None → find p xs ≡ None
none_found p xs e =
    let n = position_or_len p xs in
    find_at p xs ∙ slice_get_past xs n (ltb-false n (length xs) (no_place (nat_lt n (length xs)) n e))

pub place_within : (p : Module → Bool) (xs : List Module) (i : ℕ) → position p xs ≡ Some i → i < length xs
place_within p xs i e =
    let n = position_or_len p xs in
    let both = some_place (nat_lt n (length xs)) n i e in
    subst (λ k. k < length xs) both.0 (ltb-true n (length xs) both.1)

pub found_passes : (p : Module → Bool) (xs : List Module) (x : Module) → find p xs ≡ Some x → p x ≡ true
found_passes p [] x e = absurd cc
found_passes p (y ∷ ys) x e = by_test (λ later. found_passes p ys x later) (p y) refl e
  where
    by_test : (find p ys ≡ Some x → p x ≡ true) → (t : Bool) → p y ≡ t → cond t (Some y) (find p ys) ≡ Some x → p x ≡ true
    by_test deeper true is found = let same : y ≡ x = cc in subst (λ z. p z ≡ true) same is
    by_test deeper false is found = deeper found

-- the module there passes
pub passes_at : (p : Module → Bool) (xs : List Module) (i : ℕ) → position p xs ≡ Some i → p (get_or xs i no_module) ≡ true
passes_at p xs i e =
    found_passes p xs (get_or xs i no_module) (found_at p xs i e ∙ slice_get-get_or xs i no_module (place_within p xs i e))

-- what holds of the module there
of_there : (P : Module → Type 0) (xs : List Module) (i : ℕ) → i < length xs → P (get_or xs i no_module) → IsSomeAnd (slice_get xs i) P
of_there P xs i less h = subst (λ o. IsSomeAnd o P) (sym (slice_get-get_or xs i no_module less)) h

has_bounds : (m : Module) (b : ℕ) → has_input b m ≡ true → (m.input ≡ true) × (m.at_byte ≤ b) × (b < m.at_byte + m.len)
has_bounds m b h =
    let outer = and_parts (m.input && nat_le m.at_byte b) (nat_lt b (m.at_byte + m.len)) h in
    let inner = and_parts m.input (nat_le m.at_byte b) outer.0 in
    (inner.0, leb-true m.at_byte b inner.1, ltb-true b (m.at_byte + m.len) outer.1)

pub is_held : (plan : Plan) (b i : ℕ) → position (has_input b) plan.modules ≡ Some i → IsHeld plan i b
is_held plan b i e =
    of_there (λ m. (m.input ≡ true) × (m.at_byte ≤ b) × (b < m.at_byte + m.len)) plan.modules i (place_within (has_input b) plan.modules i e)
    (has_bounds (get_or plan.modules i no_module) b (passes_at (has_input b) plan.modules i e))

-- direct access --

pub record HasAll (addr width : ℕ) (m : Module) : Type 0 where
  pub narrow : width ≤ 4
  pub input : m.input ≡ true
  pub from : m.at_byte ≤ addr
  pub until : addr + width ≤ m.at_byte + m.len

pub has_all : (a b : Bool) (addr width : ℕ) (m : Module) → answers true a b addr width m ≡ true → HasAll addr width m
has_all a b addr width m h =
    let reached = and_parts (nat_le width 4 && m.input && nat_le m.at_byte addr && nat_le (addr + width) (m.at_byte + m.len)) (is_reachable m.kind a b) h in
    let until = and_parts (nat_le width 4 && m.input && nat_le m.at_byte addr) (nat_le (addr + width) (m.at_byte + m.len)) reached.0 in
    let from = and_parts (nat_le width 4 && m.input) (nat_le m.at_byte addr) until.0 in
    let narrow = and_parts (nat_le width 4) m.input from.0 in
    record {
      narrow = leb-true width 4 narrow.0;
      input = narrow.1;
      from = leb-true m.at_byte addr from.1;
      until = leb-true (addr + width) (m.at_byte + m.len) until.1;
    }

pub there_all : (plan : Plan) (a b : Bool) (addr width i : ℕ) → position (answers true a b addr width) plan.modules ≡ Some i → HasAll addr width (get_or plan.modules i no_module)
there_all plan a b addr width i e = has_all a b addr width (get_or plan.modules i no_module) (passes_at (answers true a b addr width) plan.modules i e)

pub narrow_there : (plan : Plan) (a b : Bool) (addr width i : ℕ) → position (answers true a b addr width) plan.modules ≡ Some i → width ≤ 4
narrow_there plan a b addr width i e = (there_all plan a b addr width i e).narrow

pub are_held : (plan : Plan) (a b : Bool) (addr width i : ℕ) → position (answers true a b addr width) plan.modules ≡ Some i → AreHeld plan i addr width
are_held plan a b addr width i e =
    let all = there_all plan a b addr width i e in
    of_there (λ m. (m.input ≡ true) × (m.at_byte ≤ addr) × (addr + width ≤ m.at_byte + m.len)) plan.modules i (place_within (answers true a b addr width) plan.modules i e) (all.input, all.from, all.until)

pub all_below : (plan : Plan) (a b : Bool) (addr width i : ℕ) → All IsModule plan.modules → position (answers true a b addr width) plan.modules ≡ Some i → addr + width ≤ 1024
all_below plan a b addr width i forms e =
    let all = there_all plan a b addr width i e in
    let form = forms i no_module (place_within (answers true a b addr width) plan.modules i e) in
    omega (arith, all.until, form.within)

held_by_one : (o : Option Module) (addr width i : ℕ) → IsSomeAnd o (λ m. (m.input ≡ true) × (m.at_byte ≤ addr) × (addr + width ≤ m.at_byte + m.len)) → i < width
    → IsSomeAnd o (λ m. (m.input ≡ true) × (m.at_byte ≤ addr + i) × (addr + i < m.at_byte + m.len))
held_by_one None addr width i h less = h
held_by_one (Some m) addr width i h less = (h.0, omega (arith, h.1), omega (arith, h.2, less))

-- each of the bytes is held
pub one_held : (plan : Plan) (place addr width i : ℕ) → AreHeld plan place addr width → i < width → IsHeld plan place (addr + i)
one_held plan place addr width i h less = held_by_one (slice_get plan.modules place) addr width i h less

-- numbers --

pub one_more : (bytes : ℕ → ℕ) (n number byte : ℕ) → number ≡ number_of bytes n → byte ≡ bytes n → 256 * number + byte ≡ number_of bytes (n + 1)
one_more bytes n number byte of_number of_byte =
    ap (λ x. 256 * x + byte) of_number ∙ ap (λ y. 256 * number_of bytes n + y) of_byte ∙ sym (ap (number_of bytes) (add-one n))

power : (n : ℕ) → n < 4 → 256 ^ n ≤ 16777216
power zero less = lit≤ tt
power (suc zero) less = lit≤ tt
power (suc (suc zero)) less = lit≤ tt
power (suc (suc (suc zero))) less = lit≤ tt
power (suc (suc (suc (suc n)))) less = absurd (omega (arith, less))

next_power : (n : ℕ) → 256 ^ (n + 1) ≡ 256 * 256 ^ n
next_power n = ap (λ k. 256 ^ k) (add-one n) ∙ pow-succ' 256 n

pub below_more : (n number byte : ℕ) → number < 256 ^ n → byte < 256 → 256 * number + byte < 256 ^ (n + 1)
below_more n number byte less small = omega (arith, next_power n, less, small)

pub fits_more : (n number byte : ℕ) → number < 256 ^ n → n < 4 → byte < 256 → 256 * number + byte < 2 ^ 32
fits_more n number byte less few small = omega (arith, power n few, less, small)

pub below_four : (width number : ℕ) → width ≤ 4 → number < 256 ^ width → number < 256 ^ 4
below_four zero number few less = omega arith
below_four (suc zero) number few less = omega arith
below_four (suc (suc zero)) number few less = omega arith
below_four (suc (suc (suc zero))) number few less = omega arith
below_four (suc (suc (suc (suc zero)))) number few less = less
below_four (suc (suc (suc (suc (suc n))))) number few less = absurd (omega (arith, few))

-- the module in the place --

module _ (plan : Plan) (a b : Bool) (states : Module → PairState) (moment : ℕ) where
  -- the state counts of a REDUNDANT module of inputs alone
  both_bytes : (r q : Bool) (s t : PairState) (n x : ℕ) → (r ≡ true → s ≡ t)
      → (if not q then 0 else if r then slice_index s.bytes n else x) ≡ (if not q then 0 else if r then slice_index t.bytes n else x)
  both_bytes true q s t n x h = ap (λ (u : PairState). if not q then 0 else slice_index u.bytes n) (h refl)
  both_bytes false q s t n x h = refl

  is_both : (p q : Bool) → p ≡ true → q ≡ true → (p && q) ≡ true
  is_both true true h k = refl
  is_both true false h k = absurd cc
  is_both false q h k = absurd cc

  same_byte : (m : Module) (s : PairState) (at_byte : ℕ) → m.input ≡ true → (is_paired m ≡ true → s ≡ states m)
      → held_byte plan a b s moment m at_byte ≡ held_byte plan a b (states m) moment m at_byte
  same_byte m s at_byte input h =
      both_bytes (is_redundant m.kind) (is_reachable m.kind a b) s (states m) (at_byte - m.at_byte) (byte_of plan m A at_byte moment)
      (λ redundant. h (is_both m.input (is_redundant m.kind) input redundant))

  held_input : (o : Option Module) (m : Module) (at_byte : ℕ) → o ≡ Some m
      → IsSomeAnd o (λ n. (n.input ≡ true) × (n.at_byte ≤ at_byte) × (at_byte < n.at_byte + n.len)) → m.input ≡ true
  held_input o m at_byte is h = (subst (λ p. IsSomeAnd p (λ n. (n.input ≡ true) × (n.at_byte ≤ at_byte) × (at_byte < n.at_byte + n.len))) is h).0

  -- what the module that was read gives, with the state that is kept in its place, is what is held in that place
  pub held_there : (at_byte i : ℕ) (m : Module) (kept : List PairState) (s : PairState) (r : ℕ) → slice_get plan.modules i ≡ Some m → IsHeld plan i at_byte
      → AreStates plan.modules states kept → s ≡ get_or kept i s → r ≡ held_byte plan a b s moment m at_byte
      → r ≡ held_by plan a b states moment at_byte (slice_get plan.modules i)
  held_there at_byte i m kept s r there held h read is =
      is ∙ same_byte m s at_byte (held_input (slice_get plan.modules i) m at_byte there held)
      (λ paired. state_at plan.modules states kept i m s h there paired read)
      ∙ sym (ap (held_by plan a b states moment at_byte) there)

  number_by : (addr width : ℕ) (o : Option Module) → IsSomeAnd o (λ m. (m.input ≡ true) × (m.at_byte ≤ addr) × (addr + width ≤ m.at_byte + m.len))
      → Some (number_of (λ i. held_by plan a b states moment (addr + i) o) width) ≡ option_map (number_in plan a b states moment addr width) o
  number_by addr width None h = absurd h
  number_by addr width (Some m) h = refl

  -- what the module in the first place spells is what is read
  pub number_there : (addr width i number : ℕ) → position (answers true a b addr width) plan.modules ≡ Some i
      → number ≡ number_of (λ j. held_by plan a b states moment (addr + j) (slice_get plan.modules i)) width → Some number ≡ input_read plan a b states moment addr width
  unfolding input_read
  number_there addr width i number at is =
      ap (λ (n : ℕ). Some n) is ∙ number_by addr width (slice_get plan.modules i) (are_held plan a b addr width i at)
      ∙ ap (option_map (number_in plan a b states moment addr width)) (sym (found_at (answers true a b addr width) plan.modules i at))

  pub none_there : (addr width : ℕ) → position (answers true a b addr width) plan.modules ≡ None → None ≡ input_read plan a b states moment addr width
  unfolding input_read
  none_there addr width at = sym (ap (option_map (number_in plan a b states moment addr width)) (none_found (answers true a b addr width) plan.modules at))
