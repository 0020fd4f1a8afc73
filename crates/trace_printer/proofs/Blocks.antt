-- The lines of the blocks that are left, at one of them.
use Rattle.std.proofs.Common.{◌≡◌, ℕ, ◌+◌, ◌<◌, List, ◌∷◌, ◌++◌, [], ap, sym, ◌∙◌, suc, add-one, drop, get_or, length, ◌≤◌}
use Rattle.std.proofs.Math.Seq.{drop-cons}
use Rattle.std.proofs.Math.ListN.{drop_of_length-le}
use Rattle.std.specs.List.{flat_map}

module _ {A : Type 0} (f : A → List ℕ) (xs : List A) (i : ℕ) where
  pub blocks_at : (x : A) (line : List ℕ) → i < length xs → x ≡ get_or xs i x → line ≡ f x → flat_map f (drop i xs) ≡ line ++ flat_map f (drop (i + 1) xs)
  blocks_at x line h here is =
      let split : drop i xs ≡ x ∷ drop (suc i) xs = drop-cons xs i x h ∙ ap (λ (y : A). y ∷ drop (suc i) xs) (sym here) in
      ap (λ (ys : List A). flat_map f ys) split ∙ ap (λ (l : List ℕ). l ++ flat_map f (drop (suc i) xs)) (sym is)
      ∙ ap (λ (n : ℕ). line ++ flat_map f (drop n xs)) (sym (add-one i))

  pub no_blocks_at : length xs ≤ i → flat_map f (drop i xs) ≡ []
  no_blocks_at h = ap (λ (ys : List A). flat_map f ys) (drop_of_length-le xs h)
