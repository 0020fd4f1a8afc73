-- Numbers that digits spell.
use Rattle.std.proofs.Common.{◌≡◌, ℕ, ◌+◌, ◌*◌, ◌-◌, ◌^◌, ◌<◌, ◌≤◌, Bool, true, false, cond, leb, ◌&&◌, List, [], ◌∷◌, Some, None, refl, ap, arith, add-one, lit<}
use Rattle.std.proofs.Math.Nat.{pow-suc, pow-le-pow_right}
use Rattle.std.specs.Option.{option_map}
use Rattle.std.proofs.lemmas.Bool.Decides.{nat_tests}
use Rattle.ft_connection.specs.Words.{capped, decimal_value}

-- numbers that count as one number do so with any digits after them
pub same_capped : (m n : ℕ) (cs : List ℕ) → capped m ≡ capped n
    → option_map capped (decimal_value m cs) ≡ option_map capped (decimal_value n cs)
same_capped m n [] e = ap (λ (k : ℕ). Some k) e
same_capped m n (c ∷ cs) e =
    by_test (leb 48 c && leb c 57) (same_capped (10 * m + (c - 48)) (10 * n + (c - 48)) cs (omega arith))
  where
    by_test : (t : Bool) → option_map capped (decimal_value (10 * m + (c - 48)) cs) ≡ option_map capped (decimal_value (10 * n + (c - 48)) cs)
        → option_map capped (cond t (decimal_value (10 * m + (c - 48)) cs) None) ≡ option_map capped (cond t (decimal_value (10 * n + (c - 48)) cs) None)
    by_test true same = same
    by_test false same = refl

-- one more decimal digit
pub one_digit_more : (n m c : ℕ) (cs : List ℕ) → 48 ≤ c → c ≤ 57 → m ≡ capped (10 * n + (c - 48))
    → option_map capped (decimal_value m cs) ≡ option_map capped (decimal_value n (c ∷ cs))
one_digit_more n m c cs low high is =
    let first : leb 48 c ≡ true = grind (arith, nat_tests) in
    let second : leb c 57 ≡ true = grind (arith, nat_tests) in
    rw (first, second) (same_capped m (10 * n + (c - 48)) cs (omega arith))

-- one more hexadecimal digit
pub one_more : (k job digit : ℕ) → job < 16 ^ k → digit < 16 → 16 * job + digit < 16 ^ (k + 1)
one_more k job digit low small =
    let power : 16 ^ (k + 1) ≡ 16 ^ k * 16 = rw (add-one k) (pow-suc 16 k) in
    omega arith

pub eight_digits : (k : ℕ) → k ≤ 8 → 16 ^ k ≤ 2 ^ 32
eight_digits k few = pow-le-pow_right {n = 16} (lit< tt) few
