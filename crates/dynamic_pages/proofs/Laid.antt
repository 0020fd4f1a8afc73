-- Elements of one width lie at multiples of it.
use Rattle.std.proofs.Common.{◌≡◌, ℕ, zero, suc, ◌+◌, ◌*◌, ◌<◌, ◌≤◌, List, [], ◌∷◌, ◌++◌, length, get_or, take, drop, sym, ap, ◌∙◌, append_assoc, arith, length-append, length-take, set, inl, inr}
use Rattle.std.specs.List.{flat_map}
use Rattle.std.proofs.lemmas.List.{take-append-drop, take_at, drop_at, drop-drop, get_or-set_other}
use Rattle.std.proofs.lemmas.Grind.{get_or-set_at}
use Rattle.std.proofs.Math.Nat.{eq-or-lt_of_le}
use Rattle.std.proofs.lemmas.List.Concat.{get_or-flat_map}

module _ {X : Type 0} (f : X → List ℕ) (w : ℕ) (all : (x : X) → length (f x) ≡ w) where
  pub laid_length : (xs : List X) → length (flat_map f xs) ≡ w * length xs
  laid_length [] = omega arith
  laid_length (x ∷ xs) = omega (arith, length-append (f x) (flat_map f xs), all x, laid_length xs)

  pub front_length : (xs : List X) (i : ℕ) → i ≤ length xs → length (flat_map f (take i xs)) ≡ w * i
  front_length xs zero le = omega arith
  front_length [] (suc i) le = absurd (omega arith)
  front_length (x ∷ xs) (suc i) le = omega (arith, length-append (f x) (flat_map f (take i xs)), all x, front_length xs i (omega (arith, le)))

  -- byte j of element i
  pub there : (xs : List X) (at i j : ℕ) (e : X) → at ≡ w * i + j → i < length xs → j < w → get_or (flat_map f xs) at 0 ≡ get_or (f (get_or xs i e)) j 0
  there xs at i j e is lt below =
      ap (λ (n : ℕ). get_or (flat_map f xs) n 0) (is ∙ ap (λ (n : ℕ). n + j) (sym (front_length xs i (omega (arith, lt)))))
      ∙ get_or-flat_map f xs i j e 0 lt (omega (arith, below, all (get_or xs i e)))

  -- all bytes of element i
  lies : (xs : List X) (i : ℕ) (e : X) (rest : List ℕ) → i < length xs → take w (drop (w * i) (flat_map f xs ++ rest)) ≡ f (get_or xs i e)
  lies [] i e rest lt = absurd (omega arith)
  lies (x ∷ xs) zero e rest lt =
      let none : w * 0 ≡ 0 = omega arith in
      ap (λ (n : ℕ). take w (drop n ((f x ++ flat_map f xs) ++ rest))) none
      ∙ ap (take w) (append_assoc (f x) (flat_map f xs) rest)
      ∙ take_at (f x) (flat_map f xs ++ rest) w (all x)
  lies (x ∷ xs) (suc i) e rest lt =
      let more : w * suc i ≡ w + w * i = omega arith in
      let after : drop w ((f x ++ flat_map f xs) ++ rest) ≡ flat_map f xs ++ rest =
      ap (drop w) (append_assoc (f x) (flat_map f xs) rest) ∙ drop_at (f x) (flat_map f xs ++ rest) w (all x) in
      ap (λ (n : ℕ). take w (drop n ((f x ++ flat_map f xs) ++ rest))) more
      ∙ ap (take w) (sym (drop-drop (w * i) w ((f x ++ flat_map f xs) ++ rest)) ∙ ap (drop (w * i)) after)
      ∙ lies xs i e rest (omega (arith, lt))

  pub piece : (xs : List X) (stored : List ℕ) (n i : ℕ) (e : X) → take n stored ≡ flat_map f xs → i < length xs → take w (drop (w * i) stored) ≡ f (get_or xs i e)
  piece xs stored n i e is lt =
      let whole : stored ≡ flat_map f xs ++ drop n stored = sym (take-append-drop n stored) ∙ ap (λ (z : List ℕ). z ++ drop n stored) is in
      ap (λ (z : List ℕ). take w (drop (w * i) z)) whole ∙ lies xs i e (drop n stored) lt

  pub long : (xs : List X) (stored : List ℕ) (n m : ℕ) → take n stored ≡ flat_map f xs → length xs ≡ m → w * m ≤ length stored
  long xs stored n m is count =
      let same : w * length xs ≡ w * m = ap (λ (k : ℕ). w * k) count in
      let cut : length (take n stored) ≡ w * length xs = ap length is ∙ laid_length xs in
      omega (arith, same, cut, length-take n stored)

-- one element more is as it should be
pub set_more : {X : Type 0} (xs all : List X) (k : ℕ) (x d : X) → k < length xs → get_or all k d ≡ x → ((j : ℕ) → j < k → get_or xs j d ≡ get_or all j d)
    → (j : ℕ) → j < k + 1 → get_or (set xs k x) j d ≡ get_or all j d
set_more xs all k x d lt is before j below = elim (eq-or-lt_of_le {n = j} {m = k} (omega (arith, below))) [ inl same ↦ get_or-set_at xs k j x d same lt ∙ sym (ap (λ (n : ℕ). get_or all n d) same ∙ is) | inr less ↦ get_or-set_other xs k j x d (λ same. absurd (omega (arith, less, same))) ∙ before j less ]
