-- Decimal numbers of any length by their digits.
use Rattle.std.proofs.Common.{◌≡◌, ℕ, suc, ◌+◌, ◌-◌, ◌*◌, ◌^◌, ◌≤◌, ◌<◌, Bool, true, false, cond, eqb, List, [], ◌∷◌, length, inl, inr, ◌⊎◌, refl, sym, ◌∙◌, ap, subst, arith, lit<}
use Rattle.std.specs.Prelude.{◌&&◌, nat_lt}
use Rattle.std.specs.Str.{all_ascii_digits}
use Rattle.std.specs.Char.{is_ascii_digit}
use Rattle.std.proofs.lemmas.Bool.{eqb-true, eqb-false, and_parts, cases_lt, lt-ltb, le-ltb}
use Rattle.std.proofs.lemmas.Bool.Decides.{nat_tests}
use Rattle.std.proofs.Math.Nat.{pow-le-pow_right, mul-le-mul_left, pow-suc}
use Rattle.plant_script.specs.Words.{begins_with}
use Rattle.plant_script.specs.Numbers.{value_from, value_of, significant, comes_before}

shift : (n x P v : ℕ) → (n * 10 + x) * P + v ≡ n * (P * 10) + ((0 * 10 + x) * P + v)
shift n x P v = grind arith

strict : (a b : ℕ) → b ≤ a → (a ≡ b → ⊥) → b < a
strict a b le other = omega arith

at_least : (d : ℕ) → 48 ≤ d → (d ≡ 48 → ⊥) → 1 ≤ d - 48
at_least d low other = omega arith

-- what stands in front of digits counts by their power of ten
from_split : (n : ℕ) (ds : List ℕ) → value_from n ds ≡ n * 10 ^ length ds + value_from 0 ds
from_split n [] = omega arith
from_split n (d ∷ ds) =
    let a = from_split (n * 10 + (d - 48)) ds in
    let b = from_split (0 * 10 + (d - 48)) ds in
    let p : 10 ^ suc (length ds) ≡ 10 ^ length ds * 10 = pow-suc 10 (length ds) in
    a ∙ shift n (d - 48) (10 ^ length ds) (value_from 0 ds)
    ∙ ap (λ q. n * q + ((0 * 10 + (d - 48)) * 10 ^ length ds + value_from 0 ds)) (sym p)
    ∙ ap (λ q. n * 10 ^ suc (length ds) + q) (sym b)

-- the first digit and the others
first_split : (d : ℕ) (ds : List ℕ) → value_from 0 (d ∷ ds) ≡ (d - 48) * 10 ^ length ds + value_from 0 ds
first_split d ds = let a = from_split (0 * 10 + (d - 48)) ds in omega (arith, a)

is_digit : (d : ℕ) (ds : List ℕ) → all_ascii_digits (d ∷ ds) ≡ true → (48 ≤ d) × (d ≤ 57) × (all_ascii_digits ds ≡ true)
is_digit d ds digits =
    let parts = and_parts (is_ascii_digit d) (all_ascii_digits ds) digits in
    let first : is_ascii_digit d ≡ true = parts.0 in
    (grind (arith, nat_tests), grind (arith, nat_tests), parts.1)

-- digits are below their power of ten
small : (ds : List ℕ) → all_ascii_digits ds ≡ true → value_from 0 ds < 10 ^ length ds
small [] digits = omega arith
small (d ∷ ds) digits =
    let is = is_digit d ds digits in
    let others : value_from 0 ds < 10 ^ length ds = small ds is.2 in
    let p : 10 ^ suc (length ds) ≡ 10 ^ length ds * 10 = pow-suc 10 (length ds) in
    let nine : d - 48 ≤ 9 = omega (arith, is.1) in
    let most : 10 ^ length ds * (d - 48) ≤ 10 ^ length ds * 9 = mul-le-mul_left (10 ^ length ds) nine in
    omega (arith, first_split d ds, others, p, most)

-- a lower digit in front makes a lower number
lower : (x y P v w : ℕ) → x < y → v < P → x * P + v < y * P + w
lower x y P v w lt below =
    let step : P * (x + 1) ≤ P * y = mul-le-mul_left P (let h : x + 1 ≤ y = omega arith in h) in
    omega (arith, step)

-- of digits that are as many the first difference decides
pub decides : (xs ys : List ℕ) → length xs ≡ length ys → all_ascii_digits xs ≡ true → all_ascii_digits ys ≡ true → comes_before xs ys ≡ nat_lt (value_from 0 xs) (value_from 0 ys)
decides [] [] same a b = refl
decides [] (y ∷ ys) same a b = absurd (omega arith)
decides (x ∷ xs) [] same a b = absurd (omega arith)
decides (x ∷ xs) (y ∷ ys) same a b =
    let ix = is_digit x xs a in
    let iy = is_digit y ys b in
    let rest : length xs ≡ length ys = omega arith in
    by_test (decides xs ys rest ix.2 iy.2) rest ix iy (eqb x y) refl
  where
    by_test : comes_before xs ys ≡ nat_lt (value_from 0 xs) (value_from 0 ys) → length xs ≡ length ys → (48 ≤ x) × (x ≤ 57) × (all_ascii_digits xs ≡ true) → (48 ≤ y) × (y ≤ 57) × (all_ascii_digits ys ≡ true)
        → (t : Bool) → eqb x y ≡ t → cond t (comes_before xs ys) (nat_lt x y) ≡ nat_lt (value_from 0 (x ∷ xs)) (value_from 0 (y ∷ ys))
    by_test deeper rest ix iy true is =
        let e : x ≡ y = eqb-true x y is in
        let p : 10 ^ length xs ≡ 10 ^ length ys = ap (λ n. 10 ^ n) rest in
        let front : (x - 48) * 10 ^ length xs ≡ (y - 48) * 10 ^ length ys = rw (e, p) refl in
        let v = first_split x xs in
        let w = first_split y ys in
        deeper ∙ grind (arith, nat_tests, v, w, front)
    by_test deeper rest ix iy false is =
        let p : 10 ^ length xs ≡ 10 ^ length ys = ap (λ n. 10 ^ n) rest in
        let vs : value_from 0 xs < 10 ^ length ys = let s = small xs ix.2 in omega (arith, s, p) in
        let ws : value_from 0 ys < 10 ^ length ys = small ys iy.2 in
        let v : value_from 0 (x ∷ xs) ≡ (x - 48) * 10 ^ length ys + value_from 0 xs = first_split x xs ∙ ap (λ n. (x - 48) * n + value_from 0 xs) p in
        let w = first_split y ys in
        elim (cases_lt x y) [
          | inl lt ↦
              let under : (x - 48) * 10 ^ length ys + value_from 0 xs < (y - 48) * 10 ^ length ys + value_from 0 ys = lower (x - 48) (y - 48) (10 ^ length ys) (value_from 0 xs) (value_from 0 ys) (omega (arith, ix.0)) vs in
              let both : value_from 0 (x ∷ xs) < value_from 0 (y ∷ ys) = omega (arith, v, w, under) in
              lt-ltb x y lt ∙ sym (lt-ltb (value_from 0 (x ∷ xs)) (value_from 0 (y ∷ ys)) both)
          | inr le ↦
              let other : x ≡ y → ⊥ = eqb-false x y is in
              let gt : y < x = strict x y le other in
              let under : (y - 48) * 10 ^ length ys + value_from 0 ys < (x - 48) * 10 ^ length ys + value_from 0 xs = lower (y - 48) (x - 48) (10 ^ length ys) (value_from 0 ys) (value_from 0 xs) (omega (arith, iy.0)) ws in
              let both : value_from 0 (y ∷ ys) ≤ value_from 0 (x ∷ xs) = omega (arith, v, w, under) in
              le-ltb x y le ∙ sym (le-ltb (value_from 0 (x ∷ xs)) (value_from 0 (y ∷ ys)) both)
        ]

-- zeros at the front count nothing
pub same_value : (ds : List ℕ) → value_from 0 (significant ds) ≡ value_from 0 ds
same_value [] = refl
same_value (d ∷ ds) = by_test (same_value ds) (eqb d 48) refl
  where
    by_test : value_from 0 (significant ds) ≡ value_from 0 ds → (t : Bool) → eqb d 48 ≡ t → value_from 0 (cond t (significant ds) (d ∷ ds)) ≡ value_from 0 (d ∷ ds)
    by_test deeper true is = let e : d ≡ 48 = eqb-true d 48 is in let zero_first : 0 ≡ 0 * 10 + (d - 48) = omega arith in deeper ∙ ap (λ n. value_from n ds) zero_first
    by_test deeper false is = refl

pub still_digits : (ds : List ℕ) → all_ascii_digits ds ≡ true → all_ascii_digits (significant ds) ≡ true
still_digits [] digits = refl
still_digits (d ∷ ds) digits = by_test (still_digits ds (is_digit d ds digits).2) digits (eqb d 48)
  where
    by_test : all_ascii_digits (significant ds) ≡ true → all_ascii_digits (d ∷ ds) ≡ true → (t : Bool) → all_ascii_digits (cond t (significant ds) (d ∷ ds)) ≡ true
    by_test deeper all true = deeper
    by_test deeper all false = all

no_zero_first : (ds : List ℕ) → begins_with 48 (significant ds) ≡ false
no_zero_first [] = refl
no_zero_first (d ∷ ds) = by_test (no_zero_first ds) (eqb d 48) refl
  where
    by_test : begins_with 48 (significant ds) ≡ false → (t : Bool) → eqb d 48 ≡ t → begins_with 48 (cond t (significant ds) (d ∷ ds)) ≡ false
    by_test deeper true is = deeper
    by_test deeper false is = is

-- more digits make a greater number, where no zero stands first
longer : (xs ys : List ℕ) → all_ascii_digits xs ≡ true → all_ascii_digits ys ≡ true → begins_with 48 ys ≡ false → length xs < length ys → value_from 0 xs < value_from 0 ys
longer xs [] a b first lt = absurd (omega arith)
longer xs (y ∷ ys) a b first lt =
    let iy = is_digit y ys b in
    let other : y ≡ 48 → ⊥ = eqb-false y 48 first in
    let some : 1 ≤ y - 48 = at_least y iy.0 other in
    let short : length xs ≤ length ys = omega arith in
    let power : 10 ^ length xs ≤ 10 ^ length ys = pow-le-pow_right (lit< tt) short in
    let least : 10 ^ length ys * 1 ≤ 10 ^ length ys * (y - 48) = mul-le-mul_left (10 ^ length ys) some in
    let v = small xs a in
    omega (arith, v, power, least, first_split y ys)

-- digits that are not as many
pub length_decides : (xs ys : List ℕ) → all_ascii_digits xs ≡ true → all_ascii_digits ys ≡ true → (length (significant xs) ≡ length (significant ys) → ⊥)
    → nat_lt (length (significant xs)) (length (significant ys)) ≡ nat_lt (value_from 0 xs) (value_from 0 ys)
length_decides xs ys a b other =
    elim (cases_lt (length (significant xs)) (length (significant ys))) [
      | inl lt ↦
          let under = longer (significant xs) (significant ys) (still_digits xs a) (still_digits ys b) (no_zero_first ys) lt in
          let both : value_from 0 xs < value_from 0 ys = omega (arith, under, same_value xs, same_value ys) in
          lt-ltb (length (significant xs)) (length (significant ys)) lt ∙ sym (lt-ltb (value_from 0 xs) (value_from 0 ys) both)
      | inr le ↦
          let gt : length (significant ys) < length (significant xs) = strict (length (significant xs)) (length (significant ys)) le other in
          let under = longer (significant ys) (significant xs) (still_digits ys b) (still_digits xs a) (no_zero_first xs) gt in
          let both : value_from 0 ys ≤ value_from 0 xs = omega (arith, under, same_value xs, same_value ys) in
          le-ltb (length (significant xs)) (length (significant ys)) le ∙ sym (le-ltb (value_from 0 xs) (value_from 0 ys) both)
    ]
