-- A step at the moment k leads from the state before k to the one before k + 1.
use Rattle.std.proofs.Common.{◌≡◌, ℕ, ◌+◌, ◌<◌, List, length, get_or, Option, Some, None, refl, sym, ap, subst, ◌∙◌, add-one}
use Rattle.std.specs.Prelude.{IfSome, IsSomeAnd, slice_get}
use Rattle.std.proofs.lemmas.Option.{get_or_from_slice_get, slice_get_within}
use Rattle.plant_script.specs.declared.plan.Module.{Module}
use Rattle.plant_script.specs.Plan.{Plan}
use Rattle.plant_io.specs.PairValue.{PairState, Standing, step_of, pair_before}

-- what holds of an element that is there holds of this one
pub of_some : {X : Type 0} (P : X → Type 0) (r : Option X) (x : X) → r ≡ Some x → IfSome r P → P x
of_some P r x is h = rw is at h

pub next_state : (plan : Plan) (m : Module) (standing : ℕ → Standing) (k : ℕ) (now : Standing) (before after : PairState)
    → standing k ≡ now → before ≡ pair_before plan m standing k → after ≡ step_of plan m now k before → after ≡ pair_before plan m standing (k + 1)
next_state plan m standing k now before after at_k old stepped =
    stepped ∙ ap (λ s. step_of plan m s k before) (sym at_k) ∙ ap (step_of plan m (standing k) k) old ∙ ap (pair_before plan m standing) (sym (add-one k))

-- what holds of an element of a list holds of the one there, if there is one
pub in_place : {X : Type 0} (P : X → Type 0) (xs ys : List X) (i : ℕ) (d : X) → xs ≡ ys → P (get_or xs i d) → IfSome (slice_get ys i) P
in_place P xs ys i d same p = by (slice_get ys i) refl
  where
    by : (o : Option _) → slice_get ys i ≡ o → IfSome o P
    by None e = tt
    by (Some x) e = subst P (ap (λ zs. get_or zs i d) same ∙ get_or_from_slice_get ys i x d e) p

-- a list with such an element reaches so far
pub within : {X : Type 0} (P : X → Type 0) (ys : List X) (i : ℕ) → IsSomeAnd (slice_get ys i) P → i < length ys
within P ys i p = by (slice_get ys i) refl p
  where
    by : (o : Option _) → slice_get ys i ≡ o → IsSomeAnd o P → i < length ys
    by None e h = absurd h
    by (Some x) e h = slice_get_within ys i x e
