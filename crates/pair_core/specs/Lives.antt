-- The lives of a side: the stretches of the record in which it ran.
use Rattle.std.specs.Prelude.{◌≡◌, ℕ, zero, suc, ◌+◌, ◌≤◌, Bool, true, false, if◌then◌else◌, List, [], ◌∷◌, ◌++◌, length, Option, Some, None}
use Rattle.s7_events.specs.declared.entry.Side.{Side}
use Rattle.s7_events.specs.declared.entry.Loss.{Loss}
use Rattle.s7_events.specs.declared.entry.Loss.TheVariants.{Failed, Suspect}
use Rattle.s7_events.specs.declared.entry.Answer.{Answer}
use Rattle.s7_events.specs.declared.entry.Answer.TheVariants.{Lost, Back, Hold}
use Rattle.s7_events.specs.declared.entry.Entry.{Entry}
use Rattle.pair_core.specs.declared.endings.Ended.{Ended}
use Rattle.pair_core.specs.declared.endings.Ended.TheVariants.{End, Stop, NoneLeft, Spent, NotPlayed}
use Rattle.subsystem.specs.declared.parts.How.{How}
use Rattle.subsystem.specs.declared.parts.How.TheVariants.{Loaded, Adopted}
use Rattle.subsystem.specs.declared.parts.Life.{Life}
use Rattle.pair_core.specs.Sides.{same_side, runs, first_standing}

-- a stretch ends by the loss of its side at an entry, or with the run
pub data StretchEnd : Type 0 where
  lost_at : (why : Loss) (entry : ℕ) → StretchEnd
  with_run : StretchEnd

-- a stretch of entries in which a side runs
pub record Stretch : Type 0 where
  pub first : ℕ
  pub last : StretchEnd

-- what an entry says of a side: it is lost, or back, or neither
pub data Change : Type 0 where
  loses : Loss → Change
  returns : Change
  keeps : Change

abbrev pub change_of : Answer → Side → Change
change_of (Lost s why) side = if same_side s side then loses why else keeps
change_of (Back s) side = if same_side s side then returns else keeps
change_of answer side = keeps

-- the stretch that began there, if one did, ends
abbrev pub closing : Option ℕ → StretchEnd → List Stretch
closing None last = []
closing (Some first) last = record { first = first; last = last } ∷ []

-- the stretch that entry k ends
abbrev pub ends_by : Option ℕ → ℕ → Change → List Stretch
ends_by began k (loses why) = closing began (lost_at why k)
ends_by began k returns = []
ends_by began k keeps = []

-- where the stretch began in which the side runs after entry k
abbrev pub began_after : Option ℕ → ℕ → Change → Option ℕ
began_after began k (loses why) = None
began_after began k returns = Some k
began_after began k keeps = began

-- the stretches from entry k on, where the side runs since `began`
abbrev pub stretches_from : Option ℕ → ℕ → List Entry → Side → List Stretch
stretches_from began k [] side = closing began with_run
stretches_from began k (e ∷ es) side =
    ends_by began k (change_of e.answer side) ++ stretches_from (began_after began k (change_of e.answer side)) (k + 1) es side

-- the stretch in which a side runs at first begins with entry 0
abbrev pub first_stretch : Bool → Side → Option ℕ
first_stretch solo side = if runs (first_standing solo) side then Some 0 else None

-- the stretches of a side in a record: from 0, where it ran at first, and from each entry by which it came back
abbrev pub stretches : Bool → List Entry → Side → List Stretch
stretches solo es side = stretches_from (first_stretch solo side) 0 es side

-- at the end of the run all entries were taken, or, by none and spent, all but one
abbrev pub EndsAt : ℕ → Ended → ℕ → Type 0
EndsAt n End next = next ≡ n
EndsAt n (Stop code) next = next ≡ n
EndsAt n NoneLeft next = (next ≤ n) × (n ≤ next + 1)
EndsAt n Spent next = (next ≤ n) × (n ≤ next + 1)
EndsAt n NotPlayed next = ⊥

-- how far a side came in a stretch
abbrev pub IsNext : ℕ → Ended → StretchEnd → ℕ → Type 0
IsNext n ended (lost_at Failed j) next = (next ≤ j) × (j ≤ next + 1)
IsNext n ended (lost_at Suspect j) next = (j ≤ next) × (next ≤ j + 1)
IsNext n ended with_run next = EndsAt n ended next

abbrev pub how_from : ℕ → How
how_from zero = Loaded
how_from (suc first) = Adopted

-- the life of a stretch, in a record of n entries
pub record IsLife (n : ℕ) (ended : Ended) (stretch : Stretch) (life : Life) : Type 0 where
  pub first : life.first ≡ stretch.first
  pub how : life.how ≡ how_from stretch.first
  pub above : life.first ≤ life.next
  pub next : IsNext n ended stretch.last life.next

abbrev pub is_hold : Answer → Bool
is_hold Hold = true
is_hold answer = false

abbrev pub is_held_from : Bool → List Entry → Bool
is_held_from before [] = before
is_held_from before (e ∷ es) = is_held_from (is_hold e.answer) es

-- the last entry is a Hold
abbrev pub is_held : List Entry → Bool
is_held es = is_held_from false es

-- where the stretch began in which the side runs after the entries
abbrev pub open_from : Option ℕ → ℕ → List Entry → Side → Option ℕ
open_from began k [] side = began
open_from began k (e ∷ es) side = open_from (began_after began k (change_of e.answer side)) (k + 1) es side

-- The life of a side that adopted the state and whose Back never came, since the visits were used up after a Hold of its return: it
-- is empty, and begins where the record ends.
pub record IsUnreturned (solo : Bool) (es : List Entry) (ended : Ended) (side : Side) (life : Life) : Type 0 where
  pub how : life.how ≡ Adopted
  pub first : life.first ≡ length es
  pub empty : life.next ≡ life.first
  pub held : is_held es ≡ true
  pub out : open_from (first_stretch solo side) 0 es side ≡ None
  pub spent : ended ≡ Spent

-- each stretch has one life, in the same order; after them there may be an extra one
abbrev pub AreLivesOf : ℕ → Ended → (Life → Type 0) → List Stretch → List Life → Type 0
AreLivesOf n ended IsExtra [] [] = Unit {0}
AreLivesOf n ended IsExtra [] (life ∷ []) = IsExtra life
AreLivesOf n ended IsExtra (stretch ∷ stretches) (life ∷ lives) = IsLife n ended stretch life × AreLivesOf n ended IsExtra stretches lives
AreLivesOf n ended IsExtra _ _ = ⊥

-- each stretch of the side has one life, in the same order, and after them stands at most the life of a side whose Back never came
abbrev pub AreLives : Bool → List Entry → Ended → Side → List Life → Type 0
AreLives solo es ended side lives = AreLivesOf (length es) ended (IsUnreturned solo es ended side) (stretches solo es side) lives

-- one past the last entry that a side took, 0 before any life
abbrev pub place_from : ℕ → List Life → ℕ
place_from before [] = before
place_from before (life ∷ lives) = place_from life.next lives

abbrev pub place_of : List Life → ℕ
place_of lives = place_from 0 lives
