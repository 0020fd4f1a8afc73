-- How the numbers of a made script are written, and what they are read as.
use Rattle.std.proofs.Common.{◌≡◌, ℕ, ◌+◌, ◌-◌, ◌*◌, ◌/◌, ◌%◌, ◌^◌, ◌≤◌, ◌<◌, false, eqb, List, [], ◌∷◌, ◌++◌, refl, arith}
use Rattle.std.specs.Fmt.{decimal}
use Rattle.std.proofs.lemmas.Bool.{ne_eqb}
use Rattle.std.proofs.lemmas.Fmt.{decimal_by_steps}
use Rattle.plant_script.specs.Words.{is_empty}
use Rattle.plant_script.specs.Numbers.{value_from}

-- decimal digits alone
abbrev pub AreDigits : List ℕ → Type 0
AreDigits [] = Unit {0}
AreDigits (d ∷ ds) = (48 ≤ d) × (d ≤ 57) × AreDigits ds

-- digits, one or more, that are read as m
pub record IsDecimal (m : ℕ) (ds : List ℕ) : Type 0 where
  pub some : is_empty ds ≡ false
  pub digits : AreDigits ds
  pub value : value_from 0 ds ≡ m

digits_more : (ds : List ℕ) (c : ℕ) → AreDigits ds → 48 ≤ c → c ≤ 57 → AreDigits (ds ++ c ∷ [])
digits_more [] c are low high = (low, high, tt)
digits_more (d ∷ ds) c are low high = (are.0, are.1, digits_more ds c are.2 low high)

value_more : (n : ℕ) (ds : List ℕ) (c : ℕ) → value_from n (ds ++ c ∷ []) ≡ value_from n ds * 10 + (c - 48)
value_more n [] c = refl
value_more n (d ∷ ds) c = value_more (n * 10 + (d - 48)) ds c

some_more : (ds : List ℕ) (c : ℕ) → is_empty (ds ++ c ∷ []) ≡ false
some_more [] c = refl
some_more (d ∷ ds) c = refl

one_digit : (n : ℕ) → n < 10 → IsDecimal n ((48 + n) ∷ [])
one_digit n small = record { some = refl; digits = (omega arith, omega arith, tt); value = omega arith }

digit_more : (n : ℕ) (ds : List ℕ) → 10 ≤ n → IsDecimal (n / 10) ds → IsDecimal n (ds ++ (48 + n % 10) ∷ [])
digit_more n ds large is = record {
  some = some_more ds (48 + n % 10);
  digits = digits_more ds (48 + n % 10) is.digits (omega arith) (omega arith);
  value = omega (arith, value_more 0 ds (48 + n % 10), is.value);
}

-- a number in decimal digits is read as itself
pub decimal_is : (n : ℕ) → n < 2 ^ 64 → IsDecimal n (decimal n)
decimal_is n small = decimal_by_steps IsDecimal one_digit digit_more n small

-- no digit is a byte below them
pub digit_other : (d c : ℕ) → 48 ≤ d → c < 48 → eqb d c ≡ false
digit_other d c low below = ne_eqb d c (λ e. omega (arith, low, below, e))
