-- An element that is put behind those that stand before it.
use Rattle.std.proofs.Common.{◌≡◌, ◌&&◌, ◌||◌, ℕ, zero, suc, List, [], ◌∷◌, refl, Bool, true, false, length, take, drop, is_some}
use Rattle.std.specs.List.{All, filter, find, insert, list_any}
use Rattle.std.proofs.lemmas.Bool.{and_from, and_parts}
use Rattle.std.proofs.lemmas.List.Elements.{All-append, All-cons, All-drop, All-head, All-tail, All-take}

module _ {X : Type 0} (before : X → X → Bool) where
  -- the element stands before the first of a list
  abbrev pub is_first : X → List X → Bool
  is_first x [] = true
  is_first x (y ∷ ys) = before x y

  -- each element stands before the next
  abbrev pub rises : List X → Bool
  rises [] = true
  rises (x ∷ xs) = is_first x xs && rises xs

  -- the test is that of an order
  pub record IsOrder : Type 0 where
    pub through : (x y z : X) → before x y ≡ true → before y z ≡ true → before x z ≡ true
    pub one_way : (x y : X) → before x y ≡ true → before y x ≡ false

  -- how many stand before this one
  abbrev pub place_of : X → List X → ℕ
  place_of x xs = length (filter (λ c. before c x) xs)

  -- behind a greater one there is none that stands before it
  none_before : IsOrder → (x y : X) (ys : List X) → before x y ≡ true → rises (y ∷ ys) ≡ true → filter (λ c. before c x) (y ∷ ys) ≡ []
  none_before o x y [] e r = rw (o.one_way x y e) refl
  none_before o x y (z ∷ zs) e r = let p = and_parts (before y z) (rises (z ∷ zs)) r in rw (o.one_way x y e) (none_before o x z zs (o.through x y z e p.0) p.1)

  first_stays : (y x : X) (ys : List X) (n : ℕ) → before y x ≡ true → is_first y ys ≡ true → is_first y (insert ys n x) ≡ true
  first_stays y x [] zero e f = e
  first_stays y x [] (suc n) e f = e
  first_stays y x (z ∷ zs) zero e f = e
  first_stays y x (z ∷ zs) (suc n) e f = f

  -- a list that rises still does with one more element, which is told apart from all in it
  pub rises_with : IsOrder → (x : X) (xs : List X) → All (λ y. before y x ≡ false → before x y ≡ true) xs → rises xs ≡ true → rises (insert xs (place_of x xs) x) ≡ true
  rises_with o x [] d r = refl
  rises_with o x (y ∷ ys) d r = by (rises_with o x ys (All-tail (λ z. before z x ≡ false → before x z ≡ true) y ys d) (and_parts (is_first y ys) (rises ys) r).1) (before y x) refl
    where
      by : rises (insert ys (place_of x ys) x) ≡ true → (b : Bool) → before y x ≡ b → rises (insert (y ∷ ys) (place_of x (y ∷ ys)) x) ≡ true
      by rest true e =
          let p = and_parts (is_first y ys) (rises ys) r in
          rw e (and_from (is_first y (insert ys (place_of x ys) x)) (rises (insert ys (place_of x ys) x)) (first_stays y x ys (place_of x ys) e p.0) rest)
      by rest false e =
          let l : before x y ≡ true = All-head (λ z. before z x ≡ false → before x z ≡ true) y ys d e in
          rw (none_before o x y ys l r) (and_from (before x y) (rises (y ∷ ys)) l r)

-- what holds of all and of one more
pub All-insert : {X : Type 0} (P : X → Type 0) (xs : List X) (n : ℕ) (x : X) → P x → All P xs → All P (insert xs n x)
All-insert P xs n x h all = All-append P (take n xs) (x ∷ drop n xs) (All-take P n xs all) (All-cons P x (drop n xs) h (All-drop P n xs all))

swap_or : (a b c : Bool) → (a || (b || c)) ≡ (b || (a || c))
swap_or true true c = refl
swap_or true false c = refl
swap_or false true c = refl
swap_or false false c = refl

-- one is found where it was found, or where it is the one put in
pub any_insert : {X : Type 0} (p : X → Bool) (xs : List X) (n : ℕ) (x : X) → list_any p (insert xs n x) ≡ (p x || list_any p xs)
any_insert p [] zero x = refl
any_insert p [] (suc n) x = refl
any_insert p (y ∷ ys) zero x = refl
any_insert p (y ∷ ys) (suc n) x = rw (any_insert p ys n x) (swap_or (p y) (p x) (list_any p ys))

pub some_found : {X : Type 0} (p : X → Bool) (xs : List X) → list_any p xs ≡ true → is_some (find p xs) ≡ true
some_found p [] e = cc
some_found p (x ∷ xs) e = by (some_found p xs) (p x) refl
  where
    by : (list_any p xs ≡ true → is_some (find p xs) ≡ true) → (b : Bool) → p x ≡ b → is_some (find p (x ∷ xs)) ≡ true
    by rest true h = rw h refl
    by rest false h = rw h (rest (rw h at e))
