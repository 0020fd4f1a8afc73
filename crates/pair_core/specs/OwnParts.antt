-- What the pair keeps of one side.
use Rattle.std.specs.Prelude.{ℕ, ◌+◌, Bool, true, false, if◌then◌else◌, List, [], ◌∷◌, Option, Some, None}
use Rattle.subsystem.specs.declared.parts.Life.{Life}
use Rattle.subsystem.specs.Part.{first_life}
use Rattle.pair_core.specs.Lives.{place_of}

-- what only visits of the side change: its lives, whether the last of them is open, and whether a visit of it was answered that the
-- run has ended
pub record OwnPart : Type 0 where
  pub lives : List Life
  pub alive : Bool
  pub over : Bool

-- one past the last entry that the side took, 0 before any life
abbrev pub own_place : OwnPart → ℕ
own_place own = place_of own.lives

-- the last life takes one more entry
abbrev pub one_more : List Life → List Life
one_more [] = []
one_more (life ∷ []) = record life { next = life.next + 1 } ∷ []
one_more (life ∷ second ∷ lives) = life ∷ one_more (second ∷ lives)

abbrev pub taken_one : OwnPart → OwnPart
taken_one own = record own { lives = one_more own.lives }

-- a side has had a life
abbrev pub had_life : List Life → Bool
had_life [] = false
had_life (life ∷ lives) = true

-- the lives of a side that never came back: the one that began by a load and has come so far, if it ran at first
abbrev pub only_life : Bool → ℕ → List Life
only_life began next = if began then record first_life { next = next } ∷ [] else []

abbrev pub lives_to : Option ℕ → List Life
lives_to None = []
lives_to (Some next) = only_life true next

-- a side before its first visit: it runs from a load, or it does not run
abbrev pub first_part : Bool → OwnPart
first_part loaded = record { lives = only_life loaded 0; alive = loaded; over = false }
