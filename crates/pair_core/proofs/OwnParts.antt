-- A side takes one more entry, and is what it was before its first visit.
use Rattle.std.proofs.Common.{◌≡◌, ◌∙◌, ℕ, ◌+◌, Bool, true, false, List, [], ◌∷◌, ◌++◌, refl, ap, sym}
use Rattle.subsystem.specs.declared.parts.Life.{Life}
use Rattle.subsystem.specs.Part.{TookOne}
use Rattle.pair_core.specs.Lives.{place_from, place_of}
use Rattle.pair_core.specs.OwnParts.{OwnPart, own_place, one_more, taken_one, had_life, only_life}

place_more : (before : ℕ) (life : Life) (lives : List Life) → place_from before (one_more (life ∷ lives)) ≡ place_from before (life ∷ lives) + 1
place_more before life [] = refl
place_more before life (second ∷ lives) = place_more life.next second lives

place_longer : (lives : List Life) → had_life lives ≡ true → place_of (one_more lives) ≡ place_of lives + 1
place_longer [] had = absurd cc
place_longer (life ∷ lives) had = place_more 0 life lives

-- a side that had a life has its place one entry further
pub own_longer : (own : OwnPart) → had_life own.lives ≡ true → own_place (taken_one own) ≡ own_place own + 1
own_longer own had = place_longer own.lives had

-- the one life of a side stays the only one
pub lives_taken : (own : OwnPart) (began : Bool) → began ≡ true → own.lives ≡ only_life began (own_place own)
    → (taken_one own).lives ≡ only_life began (own_place (taken_one own))
lives_taken own true is only =
    let more : one_more own.lives ≡ only_life true (own_place own + 1) = ap one_more only in
    let place : own_place own + 1 ≡ place_of (one_more own.lives) = sym (ap place_of more) in
    more ∙ ap (only_life true) place
lives_taken own false is only = absurd cc

last_more : (front : List Life) (life : Life) → one_more (front ++ life ∷ []) ≡ front ++ record life { next = life.next + 1 } ∷ []
last_more [] life = refl
last_more (x ∷ []) life = refl
last_more (x ∷ y ∷ front) life = ap (λ lives. x ∷ lives) (last_more (y ∷ front) life)

-- what took one more entry has its last life one entry longer
pub life_longer : (lives old new : List Life) → old ≡ lives → TookOne old new → new ≡ one_more lives
life_longer lives old new is took = took.now ∙ (sym (last_more took.front took.life) ∙ ap one_more (sym took.before ∙ is))

-- before its first visit a side has taken nothing
pub first_place : (loaded : Bool) → place_of (only_life loaded 0) ≡ 0
first_place true = refl
first_place false = refl

pub first_lives : (loaded : Bool) → only_life loaded 0 ≡ only_life loaded (place_of (only_life loaded 0))
first_lives true = refl
first_lives false = refl

last_place : (before : ℕ) (front : List Life) (life : Life) → place_from before (front ++ life ∷ []) ≡ life.next
last_place before [] life = refl
last_place before (x ∷ front) life = last_place x.next front life

-- the last life ends at the place
pub last_next : (lives front : List Life) (life : Life) → lives ≡ front ++ life ∷ [] → life.next ≡ place_of lives
last_next lives front life is = sym (ap place_of is ∙ last_place 0 front life)
