-- The values of numbers, which are told apart only up to a ceiling.
use Rattle.std.proofs.Common.{◌≡◌, ◌≤◌, ◌<◌, ◌+◌, ◌-◌, ◌*◌, ◌^◌, ℕ, suc, List, [], ◌∷◌, Option, Some, None, min, refl, arith, lit<}
use Rattle.std.proofs.Math.Nat.{pow-le-pow_right}
use Rattle.std.proofs.lemmas.Grind.{pow_more}
use Rattle.plant_script.specs.Numbers.{value_from, hex_digit, hex_from}

more : (v w ceiling d : ℕ) → min v ceiling ≡ min w ceiling → min (v * 10 + d) ceiling ≡ min (w * 10 + d) ceiling
more v w ceiling d same = grind arith

same_value : (v w ceiling : ℕ) (ds : List ℕ) → min v ceiling ≡ min w ceiling → min (value_from v ds) ceiling ≡ min (value_from w ds) ceiling
same_value v w ceiling [] same = same
same_value v w ceiling (d ∷ ds) same = same_value (v * 10 + (d - 48)) (w * 10 + (d - 48)) ceiling ds (more v w ceiling (d - 48) same)

-- a value that is cut at the ceiling goes on as the value itself
pub cut_value : (v w ceiling : ℕ) (ds : List ℕ) → w ≡ min v ceiling → min (value_from w ds) ceiling ≡ min (value_from v ds) ceiling
cut_value v w ceiling ds e = same_value w v ceiling ds (omega arith)

-- up to eight hexadecimal digits fit
pub hex_fits : (i n d : ℕ) → i < 8 → n < 16 ^ i → d < 16 → n * 16 + d < 2 ^ 32
hex_fits i n d lt below small =
    let e : i ≤ 7 = omega arith in
    let most : 16 ^ i ≤ 16 ^ 7 = pow-le-pow_right (lit< tt) e in
    omega arith

pub hex_more : (i n d : ℕ) → n < 16 ^ i → d < 16 → n * 16 + d < 16 ^ (i + 1)
hex_more i n d below small = omega (arith, pow_more 16 i)

-- one digit more
pub hex_step : (n d v : ℕ) (ds : List ℕ) → hex_digit d ≡ Some v → hex_from (n * 16 + v) ds ≡ hex_from n (d ∷ ds)
hex_step n d v ds is = rw is refl

pub hex_stops : (n d : ℕ) (ds : List ℕ) → hex_digit d ≡ None → hex_from n (d ∷ ds) ≡ None
hex_stops n d ds is = rw is refl
