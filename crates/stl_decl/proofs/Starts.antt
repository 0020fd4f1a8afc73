-- The smallest base with at most 999 units.
use Rattle.std.proofs.Common.{◌≡◌, ◌≤◌, ◌<◌, ℕ, zero, suc, ◌/◌, refl, arith, Bool, true, false}
use Rattle.std.specs.Prelude.{nat_le}
use Rattle.std.proofs.lemmas.Bool.{le-leb, leb-true}
use Rattle.s5_time.specs.Duration.{unit_millis}
use Rattle.stl_decl.specs.Constants.{smallest_base}

not_le : (a b : ℕ) → b < a → nat_le a b ≡ false
not_le a b h = by (nat_le a b) refl
  where
    by : (t : Bool) → nat_le a b ≡ t → t ≡ false
    by false e = refl
    by true e = absurd (omega (arith, leb-true a b e))

pub smallest_base_is : (ms base : ℕ) → base ≤ 3 → ms / unit_millis base ≤ 999 → ((b : ℕ) → b < base → 999 < ms / unit_millis b) → base ≡ smallest_base ms
smallest_base_is ms zero h fits small = let a : nat_le (ms / 10) 999 ≡ true = le-leb _ _ fits in rw a refl
smallest_base_is ms (suc zero) h fits small =
    let a : nat_le (ms / 10) 999 ≡ false = not_le _ _ (small 0 (omega arith)) in
    let b : nat_le (ms / 100) 999 ≡ true = le-leb _ _ fits in rw (a, b) refl
smallest_base_is ms (suc (suc zero)) h fits small =
    let a : nat_le (ms / 10) 999 ≡ false = not_le _ _ (small 0 (omega arith)) in
    let b : nat_le (ms / 100) 999 ≡ false = not_le _ _ (small 1 (omega arith)) in
    let d : nat_le (ms / 1000) 999 ≡ true = le-leb _ _ fits in rw (a, b, d) refl
smallest_base_is ms (suc (suc (suc zero))) h fits small =
    let a : nat_le (ms / 10) 999 ≡ false = not_le _ _ (small 0 (omega arith)) in
    let b : nat_le (ms / 100) 999 ≡ false = not_le _ _ (small 1 (omega arith)) in
    let d : nat_le (ms / 1000) 999 ≡ false = not_le _ _ (small 2 (omega arith)) in rw (a, b, d) refl
smallest_base_is ms (suc (suc (suc (suc n)))) h fits small = absurd (omega arith)
