-- The last of a list.
use Rattle.std.proofs.Common.{◌≡◌, ℕ, suc, ◌-◌, ◌<◌, List, [], ◌∷◌, ◌++◌, length, take, get_or, set, Some, Result, Ok, Err, refl, sym, ap, ◌∙◌, arith, length-append, append-nil}
use Rattle.std.proofs.lemmas.List.{take_at, take_all, drop_all, set-append_right, length-set}
use Rattle.std.proofs.Math.Seq.{get_or-append_seam}
use Rattle.std.proofs.lemmas.Option.{slice_get-get_or}
use Rattle.std.specs.Prelude.{slice_get, OnOk}
use Rattle.std.specs.List.{refill}
use Rattle.level_stack.specs.Levels.{last_of, without_last, with_last}

module _ {A : Type 0} where
  last_place : (xs : List A) (x : A) → length (xs ++ x ∷ []) - 1 ≡ length xs
  last_place xs x = omega (arith, length-append xs (x ∷ []))

  pub last_of-append : (xs : List A) (x : A) → last_of (xs ++ x ∷ []) ≡ Some x
  last_of-append xs x =
      ap (λ i. slice_get (xs ++ x ∷ []) i) (last_place xs x)
      ∙ slice_get-get_or (xs ++ x ∷ []) (length xs) x (omega (arith, length-append xs (x ∷ [])))
      ∙ ap Some (get_or-append_seam xs x [] x)

  pub without_last-append : (xs : List A) (x : A) → without_last (xs ++ x ∷ []) ≡ xs
  without_last-append xs x =
      ap (λ n. take n (xs ++ x ∷ [])) (last_place xs x) ∙ take_at xs (x ∷ []) (length xs) refl

  pub with_last-append : (f : A → A) (xs : List A) (x : A) → with_last f (xs ++ x ∷ []) ≡ xs ++ f x ∷ []
  with_last-append f [] x = refl
  with_last-append f (y ∷ []) x = refl
  with_last-append f (y ∷ z ∷ xs) x = ap (λ l. y ∷ l) (with_last-append f (z ∷ xs) x)

  pub length-with_last : (f : A → A) (xs : List A) → length (with_last f xs) ≡ length xs
  length-with_last f [] = refl
  length-with_last f (x ∷ []) = refl
  length-with_last f (x ∷ y ∷ rest) = ap suc (length-with_last f (y ∷ rest))

  pub get_last : (xs : List A) (x d : A) → get_or (xs ++ x ∷ []) (length (xs ++ x ∷ []) - 1) d ≡ x
  get_last xs x d =
      ap (λ i. get_or (xs ++ x ∷ []) i d) (last_place xs x) ∙ get_or-append_seam xs x [] d

  -- a list that is not empty has a last
  pub split_last : (xs : List A) → 0 < length xs → (ys : List A) × (x : A) × (xs ≡ ys ++ x ∷ [])
  split_last [] h =
      let no : ⊥ = omega arith in
      absurd no
  split_last (x ∷ []) h = ([], x, refl)
  split_last (x ∷ y ∷ rest) h =
      let r = split_last (y ∷ rest) (omega arith) in
      (x ∷ r.0, r.1, ap (λ l. x ∷ l) r.2)

  -- the last of a list is that of its tail, where this is not empty
  pub last_above : (x y : A) (rest : List A) → last_of (x ∷ y ∷ rest) ≡ last_of (y ∷ rest)
  last_above x y rest =
      let r = split_last (y ∷ rest) (omega arith) in
      ap (λ l. last_of (x ∷ l)) r.2 ∙ last_of-append (x ∷ r.0) r.1 ∙ sym (ap last_of r.2 ∙ last_of-append r.0 r.1)

  pub without_last_above : (x y : A) (rest : List A) → without_last (x ∷ y ∷ rest) ≡ x ∷ without_last (y ∷ rest)
  without_last_above x y rest =
      let r = split_last (y ∷ rest) (omega arith) in
      ap (λ l. without_last (x ∷ l)) r.2
      ∙ without_last-append (x ∷ r.0) r.1
      ∙ ap (λ l. x ∷ l) (sym (ap without_last r.2 ∙ without_last-append r.0 r.1))

  pub refill-same : (xs ys : List A) → length ys ≡ length xs → refill (length xs) xs ys ≡ ys
  refill-same xs ys n =
      ap (λ l. take (length xs) (ys ++ l)) (drop_all (length ys) xs (omega arith))
      ∙ ap (λ l. take (length xs) l) (append-nil ys)
      ∙ take_all (length xs) ys (omega arith)

  refill-set : (xs : List A) (i : ℕ) (y : A) → refill (length xs) xs (set xs i y) ≡ set xs i y
  refill-set xs i y = refill-same xs (set xs i y) (length-set xs i y)

  set_last : (xs : List A) (x y : A) → set (xs ++ x ∷ []) (length (xs ++ x ∷ []) - 1) y ≡ xs ++ y ∷ []
  set_last xs x y =
      ap (λ i. set (xs ++ x ∷ []) i y) (last_place xs x)
      ∙ set-append_right xs (x ∷ []) (length xs) (length xs) y refl (omega arith)
      ∙ ap (λ i. xs ++ set (x ∷ []) i y) (let e : length xs - length xs ≡ 0 = omega arith in e)

  put_append : (f : A → A) (xs ys : List A) (z d y : A) → xs ≡ ys ++ z ∷ [] → y ≡ f (get_or xs (length xs - 1) d) → refill (length xs) xs (set xs (length xs - 1) y) ≡ with_last f xs
  put_append f xs ys z d y e g =
      let same : get_or xs (length xs - 1) d ≡ z = ap (λ l. get_or l (length l - 1) d) e ∙ get_last ys z d in
      refill-set xs (length xs - 1) y
      ∙ ap (λ l. set l (length l - 1) y) e
      ∙ set_last ys z y
      ∙ ap (λ w. ys ++ w ∷ []) (g ∙ ap f same)
      ∙ sym (with_last-append f ys z)
      ∙ ap (λ l. with_last f l) (sym e)

  -- a list in whose last place the changed last was written is the list with its last changed
  pub put_last : (f : A → A) (xs now all : List A) (n : ℕ) (d y : A) → now ≡ xs → n ≡ length xs → xs ≡ all → 0 < length all → y ≡ f (get_or now (n - 1) d) → refill (length xs) xs (set now (n - 1) y) ≡ with_last f all
  put_last f xs now all n d y e m v h g =
      let filled : 0 < length xs = let same = ap length v in omega arith in
      let r = split_last xs filled in
      let changed : y ≡ f (get_or xs (length xs - 1) d) =
      g ∙ ap (λ l. f (get_or l (n - 1) d)) e ∙ ap (λ i. f (get_or xs (i - 1) d)) m in
      ap (λ l. refill (length xs) xs (set l (n - 1) y)) e
      ∙ ap (λ i. refill (length xs) xs (set xs (i - 1) y)) m
      ∙ put_append f xs r.0 r.1 d y r.2 changed
      ∙ ap (λ l. with_last f l) v

  -- the same where a call may have refused
  pub put_last_ok : {E : Type 0} (r : Result (Unit {0}) E) (f : A → A) (xs now all : List A) (n : ℕ) (d y : A) → now ≡ xs → n ≡ length xs → xs ≡ all → 0 < length all → OnOk r (y ≡ f (get_or now (n - 1) d)) → OnOk r (refill (length xs) xs (set now (n - 1) y) ≡ with_last f all)
  put_last_ok (Ok u) f xs now all n d y e m v h g = put_last f xs now all n d y e m v h g
  put_last_ok (Err x) f xs now all n d y e m v h g = g

  -- as many as before
  pub length-put : (xs now all : List A) (i : ℕ) (y : A) → now ≡ xs → xs ≡ all → length (refill (length xs) xs (set now i y)) ≡ length all
  length-put xs now all i y e v =
      ap (λ l. length (refill (length xs) xs (set l i y))) e ∙ ap length (refill-set xs i y) ∙ length-set xs i y ∙ ap length v
