-- Numbers of 32 bits are added and multiplied in 64 bits with nothing lost.
use Rattle.std.proofs.Common.{◌≡◌, ap, ◌∙◌, arith, refl, ℕ, zero, suc, ◌≤◌, ◌^◌}
use native.Mathlib.Nat.{div-le_self}
use Rattle.std.specs.Prelude.{ℤ, pos, negsuc, ◌+ℤ◌, ◌*ℤ◌, neg_ℤ, unsigned_abs, FitsSigned, int_div, int_rem}
use Rattle.std.specs.Int.{w32, w64}
use mir.Val.{SFits, of_z, to_z}
use Rattle.std.proofs.lemmas.Int.{ints, fits_signed_mul, to_z-of_z, quot_is, rem_is, fits_signed_from_abs}

pub sum_in_64 : (a b : ℤ) → SFits w32 a → SFits w32 b → to_z w64 (of_z w64 (to_z w64 (of_z w64 a) +ℤ to_z w64 (of_z w64 b))) ≡ a +ℤ b
sum_in_64 a b f g = omega (arith, ints)

abs_bound : (a : ℤ) → SFits w32 a → unsigned_abs a ≤ 2 ^ 31
abs_bound (pos n) f = omega (arith, f.sfits)
abs_bound (negsuc n) f = omega (arith, f.sfits)

product_fits : (a b : ℤ) → SFits w32 a → SFits w32 b → FitsSigned w64 (a *ℤ b)
product_fits a b f g = fits_signed_mul w64 a b (2 ^ 31) (2 ^ 31) (abs_bound a f) (abs_bound b g) (omega arith)

pub in_64 : (a : ℤ) → SFits w32 a → FitsSigned w64 a
in_64 a f = record { sfits = omega (arith, f.sfits) }

pub product_in_64 : (a b : ℤ) → SFits w32 a → SFits w32 b → to_z w64 (of_z w64 (to_z w64 (of_z w64 a) *ℤ to_z w64 (of_z w64 b))) ≡ a *ℤ b
product_in_64 a b f g =
    ap (λ x. to_z w64 (of_z w64 (x *ℤ to_z w64 (of_z w64 b)))) (to_z-of_z w64 a (in_64 a f))
    ∙ ap (λ y. to_z w64 (of_z w64 (a *ℤ y))) (to_z-of_z w64 b (in_64 b g))
    ∙ to_z-of_z w64 (a *ℤ b) (product_fits a b f g)

unsigned_abs-neg : (n : ℕ) → unsigned_abs (neg_ℤ (pos n)) ≡ n
unsigned_abs-neg zero = refl
unsigned_abs-neg (suc n) = refl

quotient_abs : (a b : ℤ) → unsigned_abs (int_div a b) ≤ unsigned_abs a
quotient_abs (pos m) (pos n) = div-le_self m n
quotient_abs (pos m) (negsuc n) = rw unsigned_abs-neg (div-le_self m (suc n))
quotient_abs (negsuc m) (pos n) = rw unsigned_abs-neg (div-le_self (suc m) n)
quotient_abs (negsuc m) (negsuc n) = div-le_self (suc m) (suc n)

quotient_fits : (a b : ℤ) → SFits w32 a → FitsSigned w64 (int_div a b)
quotient_fits a b f = fits_signed_from_abs w64 (int_div a b) (omega (arith, quotient_abs a b, abs_bound a f))

pub quotient_in_64 : (a b : ℤ) → SFits w32 a → SFits w32 b → to_z w64 (of_z w64 (int_div (to_z w64 (of_z w64 a)) (to_z w64 (of_z w64 b)))) ≡ int_div a b
quotient_in_64 a b f g = quot_is w64 a b (in_64 a f) (in_64 b g) (quotient_fits a b f)

pub remainder_in_64 : (a b : ℤ) → SFits w32 a → SFits w32 b → to_z w64 (of_z w64 (int_rem (to_z w64 (of_z w64 a)) (to_z w64 (of_z w64 b)))) ≡ int_rem a b
remainder_in_64 a b f g = rem_is w64 a b (in_64 a f) (in_64 b g)
