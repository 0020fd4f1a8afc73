-- A piece up to a byte.
use Rattle.std.proofs.Common.{◌≡◌, ℕ, Bool, true, false, eqb, List, [], ◌∷◌, ◌++◌, Option, Some, None, refl, ◌∙◌, ap}
use Rattle.std.specs.Option.{option_map}
use Rattle.std.proofs.lemmas.Bool.{eqb-true}
use Rattle.plant_script.specs.Fields.{split_at}

-- what was passed, in front of what is split off
abbrev pub with_front : List ℕ → Option (List ℕ × List ℕ) → Option (List ℕ × List ℕ)
with_front front split = option_map (λ p. (front ++ p.0, p.1)) split

abbrev some : {A : Type 0} → A → Option A
some x = Some x

pub some_is : {A : Type 0} (x y : A) → some x ≡ some y → x ≡ y
some_is x y e = cc

pub split_takes : (d : ℕ) (text w rest : List ℕ) → split_at d text ≡ Some (w, rest) → text ≡ w ++ d ∷ rest
split_takes d [] w rest e = absurd cc
split_takes d (b ∷ bs) w rest e = by_test (λ v after is. split_takes d bs v after is) (eqb b d) refl
  where
    there : ((v after : List ℕ) → split_at d bs ≡ Some (v, after) → bs ≡ v ++ d ∷ after) → (o : Option (List ℕ × List ℕ)) → split_at d bs ≡ o → option_map {U = List ℕ × List ℕ} (λ p. (b ∷ p.0, p.1)) o ≡ Some (w, rest) → b ∷ bs ≡ w ++ d ∷ rest
    there deeper None is e = absurd cc
    there deeper (Some p) is e =
        let found : bs ≡ p.0 ++ d ∷ p.1 = deeper p.0 p.1 is in
        let same : (b ∷ p.0, p.1) ≡ (w, rest) = some_is (b ∷ p.0, p.1) (w, rest) e in
        ap (λ (l : List ℕ). b ∷ l) found ∙ ap (λ (q : List ℕ × List ℕ). q.0 ++ d ∷ q.1) same

    by_test : ((v after : List ℕ) → split_at d bs ≡ Some (v, after) → bs ≡ v ++ d ∷ after) → (t : Bool) → eqb b d ≡ t → b ∷ bs ≡ w ++ d ∷ rest
    by_test deeper true is =
        let same : ([], bs) ≡ (w, rest) = some_is ([], bs) (w, rest) (rw is at e) in
        ap (λ (c : ℕ). c ∷ bs) (eqb-true b d is) ∙ ap (λ (q : List ℕ × List ℕ). q.0 ++ d ∷ q.1) same
    by_test deeper false is = there deeper (split_at d bs) refl (rw is at e)
