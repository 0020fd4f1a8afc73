-- A stack that takes an entry stays one.
use Rattle.std.proofs.Common.{◌≡◌, refl, ℕ, zero, suc, ◌-◌, ◌<◌, ◌≤◌, List, [], ◌∷◌, take, ap, ◌∙◌, arith}
use Rattle.std.specs.Prelude.{slice_set}
use Rattle.std.proofs.lemmas.List.{length-set, take-set, take-replicate}
use Rattle.bit_unit.specs.Inside.{IsStack}

take_fewer : {X : Type 0} (m n : ℕ) (xs : List X) → m ≤ n → take m xs ≡ take m (take n xs)
take_fewer zero n xs h = refl
take_fewer (suc m) zero xs h = absurd (omega arith)
take_fewer (suc m) (suc n) [] h = refl
take_fewer (suc m) (suc n) (x ∷ xs) h = ap (λ rest. x ∷ rest) (take_fewer m n xs (omega arith))

pub IsStack-set : {X : Type 0} (places free : ℕ) (nothing x : X) (xs : List X) → 0 < free → IsStack places free nothing xs → IsStack places (free - 1) nothing (slice_set xs (free - 1) x)
IsStack-set places free nothing x xs h s = record {
  full = length-set xs (free - 1) x ∙ s.full;
  within = omega (arith, s.within);
  unused =
      take-set xs (free - 1) x
      ∙ take_fewer (free - 1) free xs (omega arith)
      ∙ ap (take (free - 1)) s.unused
      ∙ take-replicate (free - 1) free nothing (omega arith);
}
