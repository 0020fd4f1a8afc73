-- How many bytes of a class stand at the front.
use Rattle.std.proofs.Common.{◌≡◌, ◌≤◌, ◌<◌, ℕ, List, [], ◌∷◌, Bool, true, false, not, cond, length, get_or, refl, arith}
use Rattle.std.specs.Prelude.{position, Some, None, nat_lt}
use Rattle.std.specs.Option.{unwrap_or}
use Rattle.std.specs.List.{prefix_len}
use Rattle.std.proofs.lemmas.List.Sums.{prefix_len-le-length}
use Rattle.std.proofs.lemmas.Bool.Decides.{nat_tests}

twice : (b : Bool) → not (not b) ≡ b
twice true = refl
twice false = refl

same : (p : ℕ → Bool) (xs : List ℕ) → prefix_len (λ x. not (not (p x))) xs ≡ prefix_len p xs
same p [] = refl
same p (x ∷ xs) = rw (twice (p x), same p xs) refl

ended : (n l : ℕ) → n ≤ l → unwrap_or (cond (nat_lt n l) (Some n) None) l ≡ n
ended n l h = by (nat_lt n l) refl
  where
    by : (t : Bool) → nat_lt n l ≡ t → unwrap_or (cond t (Some n) None) l ≡ n
    by true e = refl
    by false e = grind (arith, nat_tests)

-- where the first byte of another class stands, or the end
pub front_is : (p : ℕ → Bool) (xs : List ℕ) → unwrap_or (position (λ b. not (p b)) xs) (length xs) ≡ prefix_len p xs
front_is p xs = rw (same p xs) (ended (prefix_len p xs) (length xs) (prefix_len-le-length p xs))

-- a byte of the class stands there
pub front_some : (p : ℕ → Bool) (xs : List ℕ) → 0 < length xs → p (get_or xs 0 0) ≡ true → 0 < prefix_len p xs
front_some p [] some e = absurd (omega arith)
front_some p (x ∷ xs) some e = rw e (omega arith)
