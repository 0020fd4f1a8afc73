-- Loops that build a program from lists.
use Rattle.std.proofs.Common.{◌≡◌, ◌≤◌, ◌<◌, ℕ, suc, List, [], ◌∷◌, ◌++◌, ◌+◌, refl, subst, ap, sym, ◌∙◌, length, take, drop, get_or, add-one, map}
use Rattle.std.proofs.Math.Seq.{drop-cons}
use Rattle.std.proofs.lemmas.List.{take_more, map_push, take_all}
use Rattle.std.proofs.Math.ListN.{drop_of_length-le}
use Rattle.std.specs.Prelude.{Option}
use Rattle.std.specs.List.{fold}
use Rattle.s7_base.specs.declared.statement.Statement.{Statement}
use Rattle.stl_reader.specs.declared.contents.Jump.{Jump}
use Rattle.stl_reader.specs.declared.items.BodyStatement.{BodyStatement}
use Rattle.block_loader.specs.Load.{landed_one}

module _ {A B : Type 0} (f : B → A → B) (xs : List A) (i : ℕ) where
  -- one more element
  pub fold_more : (a a' all : B) (x : A) → i < length xs → x ≡ get_or xs i x → a' ≡ f a x → fold f a (drop i xs) ≡ all → fold f a' (drop (i + 1) xs) ≡ all
  fold_more a a' all x h is next here =
      let split : drop i xs ≡ x ∷ drop (suc i) xs = drop-cons xs i x h ∙ ap (λ y. y ∷ drop (suc i) xs) (sym is) in
      rw (add-one, next) (subst (λ ys. fold f a ys ≡ all) split here)

  -- the same of elements that are copied
  pub fold_next : (a a' all : B) (d : A) → i < length xs → a' ≡ f a (get_or xs i d) → fold f a (drop i xs) ≡ all → fold f a' (drop (i + 1) xs) ≡ all
  fold_next a a' all d h next here = rw (add-one, next) (subst (λ ys. fold f a ys ≡ all) (drop-cons xs i d h) here)

  pub fold_done : (a all : B) → length xs ≤ i → fold f a (drop i xs) ≡ all → a ≡ all
  fold_done a all h here = let none : drop i xs ≡ [] = drop_of_length-le xs h in subst (λ ys. fold f a ys ≡ all) none here

module _ {A B : Type 0} (f : A → B) (xs : List A) (i : ℕ) where
  -- one more element of a list that is mapped
  pub mapped_more : (front next : List B) (d : A) → i < length xs → next ≡ front ++ f (get_or xs i d) ∷ [] → front ≡ map f (take i xs) → next ≡ map f (take (i + 1) xs)
  mapped_more front next d h push here = rw (push, take_more xs i d h, map_push f (take i xs) (get_or xs i d), here) refl

  pub mapped_done : (front : List B) → length xs ≤ i → front ≡ map f (take i xs) → front ≡ map f xs
  mapped_done front h here = here ∙ ap (λ ys. map f ys) (take_all i xs h)

-- targets by a map of the names are those by the labels
pub same_targets : (names labels : List ℕ → Option ℕ) → ((k : List ℕ) → names k ≡ labels k) → (statements : List Statement) (jumps : List Jump) → fold (landed_one names) statements jumps ≡ fold (landed_one labels) statements jumps
same_targets names labels e statements [] = refl
same_targets names labels e statements (j ∷ js) = rw (e j.name) (same_targets names labels e (landed_one labels statements j) js)

-- what an index past the list gives
abbrev pub no_statement_there : BodyStatement
no_statement_there = record { statement = record { op = 0; area = 0; bit = 0; db = 0; value = 0 }; line = 0; column = 0 }
