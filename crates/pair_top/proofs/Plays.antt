-- Visits that follow one another.
use Rattle.std.proofs.Common.{◌≡◌, ◌<◌, ◌+◌, ◌-◌, ◌∷◌, ◌++◌, [], List, ℕ, suc, Bool, true, false, Option, Some, None, refl, sym, ◌∙◌, ap, subst, arith, append_assoc, replicate}
use Rattle.std.specs.Prelude.{nat_le, is_some, unwrap_or, if◌then◌else◌}
use Rattle.std.specs.List.{flat_map}
use Rattle.std.proofs.lemmas.List.{append-nil}
use Rattle.s7_events.specs.declared.entry.Side.{Side}
use Rattle.s7_events.specs.Optional.{◌>>=◌}
use Rattle.pair_core.specs.Setup.{Setup}
use Rattle.pair_core.specs.World.{World, step, play}
use Rattle.pair_core.specs.Turns.{is_over}
use Rattle.pair_top.specs.Pattern.{most_visits, visits_in as visits_count, side_of, sides_from, Repeated, repeated, visits_of_part, part_of, pieces, parts_of, visits_by, visits_of}
use Rattle.pair_top.specs.WordsView.{visits_in}
use Rattle.pair_top.specs.Playing.{Plays}

-- from one world by the first visits comes what comes from another by the second ones
abbrev pub Reaches : Setup → World → List Side → World → List Side → Type 0
Reaches p w xs v ys = (more : List Side) → play p w (xs ++ more) ≡ play p v (ys ++ more)

pub reaches_on : (p : Setup) (w v u : World) (xs ys zs : List Side) → Reaches p w xs v (ys ++ zs) → Plays p v ys false u → Reaches p w xs u zs
reaches_on p w v u xs ys zs so_far plays more =
    so_far more ∙ ap (λ l. play p v l) (append_assoc ys zs more) ∙ plays (zs ++ more)

pub reaches_over : (p : Setup) (w v u : World) (xs ys zs : List Side) → Reaches p w xs v (ys ++ zs) → Plays p v ys true u → Plays p w xs true u
reaches_over p w v u xs ys zs so_far plays more =
    so_far more ∙ ap (λ l. play p v l) (append_assoc ys zs more) ∙ plays (zs ++ more)

pub reaches_end : (p : Setup) (w v : World) (xs : List Side) → Reaches p w xs v [] → Plays p w xs false v
reaches_end p w v xs so_far = so_far

pub plays_all : (p : Setup) (w v : World) (xs : List Side) → Reaches p w xs v [] → v ≡ play p w xs
plays_all p w v xs so_far = sym (ap (λ l. play p w l) (sym (append-nil xs)) ∙ so_far [])

pub ends_all : (p : Setup) (w v : World) (xs : List Side) → Plays p w xs true v → v ≡ play p w xs
ends_all p w v xs plays = sym (ap (λ l. play p w l) (sym (append-nil xs)) ∙ plays [])

-- whether or not the run has ended
pub plays_through : (p : Setup) (w v : World) (xs : List Side) (over : Bool) → Plays p w xs over v → v ≡ play p w xs
plays_through p w v xs true plays = ends_all p w v xs plays
plays_through p w v xs false plays = plays_all p w v xs plays

-- letters

abbrev pub sides_left : List ℕ → List Side
sides_left letters = unwrap_or (sides_from letters) []

pub one_more_side : (b : ℕ) (bs : List ℕ) (side : Side) → side_of b ≡ Some side → is_some (sides_from bs) ≡ true → sides_left (b ∷ bs) ≡ side ∷ sides_left bs
one_more_side b bs side e more = rw e (by (sides_from bs) more)
  where
    by : (o : Option (List Side)) → is_some o ≡ true → unwrap_or (o >>= λ sides. Some (side ∷ sides)) [] ≡ side ∷ unwrap_or o []
    by None more = absurd cc
    by (Some sides) more = refl

-- parts

pub repeated_more : (k n : ℕ) (sides : List Side) → k < n → repeated (n - k) sides ≡ sides ++ repeated (n - (k + 1)) sides
repeated_more k n sides h = let e : n - k ≡ suc (n - (k + 1)) = omega arith in rw e refl

abbrev pub visits_left : Option (List Repeated) → List Side
visits_left None = []
visits_left (Some parts) = flat_map visits_of_part parts

pub one_more_part : (piece : List ℕ) (part : Repeated) (ps : List (List ℕ)) → part_of piece ≡ Some part → is_some (parts_of (piece ∷ ps)) ≡ true
    → (is_some (parts_of ps) ≡ true) × (visits_left (parts_of (piece ∷ ps)) ≡ repeated part.times part.sides ++ visits_left (parts_of ps))
one_more_part piece part ps e some = by (parts_of ps) (rw e at some)
  where
    by : (o : Option (List Repeated)) → is_some (o >>= λ parts. Some (part ∷ parts)) ≡ true → (is_some o ≡ true) × (visits_left (part_of piece >>= λ first. o >>= λ parts. Some (first ∷ parts)) ≡ repeated part.times part.sides ++ visits_left o)
    by None some = absurd cc
    by (Some parts) some = (refl, rw e refl)

pub no_part : (piece : List ℕ) (ps : List (List ℕ)) → part_of piece ≡ None → is_some (parts_of (piece ∷ ps)) ≡ true → ⊥
no_part piece ps e some = let bad : false ≡ true = rw e at some in cc

chosen_visits : (sides : List Side) (few : Bool) → is_some (if few then Some sides else None) ≡ true → unwrap_or (if few then Some sides else None) [] ≡ sides
chosen_visits sides true some = refl
chosen_visits sides false some = absurd cc

pub pattern_visits : (word : List ℕ) → is_some (visits_of word) ≡ true → (is_some (parts_of (pieces word)) ≡ true) × (visits_in word ≡ visits_left (parts_of (pieces word)))
unfolding visits_of
pattern_visits word some = by (parts_of (pieces word)) some
  where
    by : (o : Option (List Repeated)) → is_some (visits_by o) ≡ true → (is_some o ≡ true) × (unwrap_or (visits_by o) [] ≡ visits_left o)
    by None some = absurd cc
    by (Some parts) some = (refl, chosen_visits (flat_map visits_of_part parts) (nat_le (visits_count parts) most_visits) some)

-- one side

pub replicate_left : (k n : ℕ) (side : Side) → k < n → replicate (n - k) side ≡ (side ∷ []) ++ replicate (n - (k + 1)) side
replicate_left k n side h = let e : n - k ≡ suc (n - (k + 1)) = omega arith in rw e refl

pub one_visit : (p : Setup) (w new : World) (s : Side) (over : Bool) → is_over (step p w s).answer ≡ over → (step p w s).world ≡ new → Plays p w (s ∷ []) over new
one_visit p w new s over o n more = rw (← o, ← n) refl

pub with_over : (p : Setup) (w new : World) (xs : List Side) (over known : Bool) → over ≡ known → Plays p w xs over new → Plays p w xs known new
with_over p w new xs over known is plays = subst (λ o. Plays p w xs o new) is plays
