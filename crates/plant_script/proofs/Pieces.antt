-- Splitting a text at a byte.
use Rattle.std.proofs.Common.{◌≡◌, ℕ, Bool, true, false, eqb, List, [], ◌∷◌, ◌++◌, Option, Some, None, refl, ◌∙◌, ap, subst}
use Rattle.std.specs.Option.{option_map}
use Rattle.std.proofs.lemmas.Bool.{eqb-true}
use Rattle.plant_script.specs.Fields.{split_at}

-- what was passed, in front of what is split off
abbrev pub with_front : List ℕ → Option (List ℕ × List ℕ) → Option (List ℕ × List ℕ)
with_front front split = option_map (λ p. (front ++ p.0, p.1)) split

abbrev some : {A : Type 0} → A → Option A
some x = Some x

some_is : {A : Type 0} (x y : A) → some x ≡ some y → x ≡ y
some_is x y e = cc

-- no byte is d
abbrev pub Lacks : ℕ → List ℕ → Type 0
Lacks d [] = Unit {0}
Lacks d (b ∷ bs) = (eqb b d ≡ false) × Lacks d bs

-- what was split off: the bytes before the first d, and those behind it
pub record IsSplit (d : ℕ) (text w rest : List ℕ) : Type 0 where
  pub whole : text ≡ w ++ d ∷ rest
  pub lacks : Lacks d w

pub split_takes : (d : ℕ) (text w rest : List ℕ) → split_at d text ≡ Some (w, rest) → IsSplit d text w rest
split_takes d [] w rest e = absurd cc
split_takes d (b ∷ bs) w rest e = by_test (λ v after is. split_takes d bs v after is) (eqb b d) refl
  where
    there : ((v after : List ℕ) → split_at d bs ≡ Some (v, after) → IsSplit d bs v after) → eqb b d ≡ false → (o : Option (List ℕ × List ℕ)) → split_at d bs ≡ o → option_map {U = List ℕ × List ℕ} (λ p. (b ∷ p.0, p.1)) o ≡ Some (w, rest) → IsSplit d (b ∷ bs) w rest
    there deeper other None is e = absurd cc
    there deeper other (Some p) is e =
        let found : IsSplit d bs p.0 p.1 = deeper p.0 p.1 is in
        let same : (b ∷ p.0, p.1) ≡ (w, rest) = some_is (b ∷ p.0, p.1) (w, rest) e in
        let first : b ∷ p.0 ≡ w = ap (λ (q : List ℕ × List ℕ). q.0) same in
        let lacks : Lacks d (b ∷ p.0) = (other, found.lacks) in
        record {
          whole = ap (λ (l : List ℕ). b ∷ l) found.whole ∙ ap (λ (q : List ℕ × List ℕ). q.0 ++ d ∷ q.1) same;
          lacks = subst (Lacks d) first lacks;
        }

    by_test : ((v after : List ℕ) → split_at d bs ≡ Some (v, after) → IsSplit d bs v after) → (t : Bool) → eqb b d ≡ t → IsSplit d (b ∷ bs) w rest
    by_test deeper true is =
        let same : ([], bs) ≡ (w, rest) = some_is ([], bs) (w, rest) (rw is at e) in
        let first : [] ≡ w = ap (λ (q : List ℕ × List ℕ). q.0) same in
        let lacks : Lacks d [] = tt in
        record {
          whole = ap (λ (c : ℕ). c ∷ bs) (eqb-true b d is) ∙ ap (λ (q : List ℕ × List ℕ). q.0 ++ d ∷ q.1) same;
          lacks = subst (Lacks d) first lacks;
        }
    by_test deeper false is = there deeper is (split_at d bs) refl (rw is at e)

-- a text that is not split has no such byte
pub split_lacks : (d : ℕ) (text : List ℕ) → split_at d text ≡ None → Lacks d text
split_lacks d [] e = tt
split_lacks d (b ∷ bs) e = by_test (λ is. split_lacks d bs is) (eqb b d) refl
  where
    there : (split_at d bs ≡ None → Lacks d bs) → (o : Option (List ℕ × List ℕ)) → split_at d bs ≡ o → option_map {U = List ℕ × List ℕ} (λ p. (b ∷ p.0, p.1)) o ≡ None → Lacks d bs
    there deeper None is e = deeper is
    there deeper (Some p) is e = absurd cc

    by_test : (split_at d bs ≡ None → Lacks d bs) → (t : Bool) → eqb b d ≡ t → Lacks d (b ∷ bs)
    by_test deeper true is = absurd cc
    by_test deeper false is = (is, there deeper (split_at d bs) refl (rw is at e))
