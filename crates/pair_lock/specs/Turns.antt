-- The rule of the turn: what is true of a lock between any two steps, and what a seat learns by a step on the turn.
use Rattle.std.specs.Prelude.{◌≡◌, ◌≢◌, ℕ, true, false, ◌⊎◌, List, [], ◌∷◌, length, slice_index, Option, Some, None, is_some}
use mathlib.Core.Option.{none, some}
use mathlib.Core.List.{IsPrefix}
use lib.ListN.{get_elem?}
use Rattle.s7_events.specs.declared.entry.Side.{Side}
use Rattle.atomic_table.specs.Table.{State, Me, Step}
use Rattle.pair_lock.specs.declared.view.View.{View}
use Rattle.pair_lock.specs.Views.{last_known, after_taking, after_try, after_giving}

module _ {T : Type 0} where
  -- entries: the entries that a value stands for; own: the own part of a side
  module _ {E O : Type 0} (entries : T → List E) (own : T → Side → O) where
    -- y begins with all entries of x, and has the same own part of the side
    abbrev pub Follows : Side → T → T → Type 0
    Follows s x y = IsPrefix (entries x) (entries y) × (own x s ≡ own y s)

    -- the same of what is known of a value, if anything is
    abbrev pub FollowsKnown : Side → Option T → T → Type 0
    FollowsKnown s None v = Unit {0}
    FollowsKnown s (Some x) v = Follows s x v

    -- what the view knows is true of the value v: what it has seen is a prefix of the entries, and its side's own part is
    -- as it knew it
    abbrev pub Fits : View T → T → Type 0
    Fits u v = (s : Side) → FollowsKnown s (last_known u s) v

    -- w has all entries of v and maybe more, and the same own part of each side that is not the view's
    abbrev pub Keeps : View T → T → T → Type 0
    Keeps u v w = IsPrefix (entries v) (entries w) × ((s : Side) → is_some (last_known u s) ≡ false → own v s ≡ own w s)

    -- the turn is free: the value is at home, and no view has taken it
    pub record IsFree (s : State (Option T) (View T)) (value : T) : Type 0 where
      pub word : slice_index s.words 0 ≡ 0
      pub home : get_elem? s.homes 0 ≡ some (some (Some value))
      pub none_took : (j : ℕ) (u : View T) → get_elem? s.views j ≡ some u → u.took ≡ None

    -- the turn is held: one view, that of a side, has taken the value
    pub record IsHeld (s : State (Option T) (View T)) (value : T) : Type 0 where
      pub word : slice_index s.words 0 ≡ 1
      pub out : get_elem? s.homes 0 ≡ some none
      pub holder : ℕ
      pub view : View T
      pub at : get_elem? s.views holder ≡ some view
      pub took : view.took ≡ Some value
      pub side : Side
      pub live : is_some (last_known view side) ≡ true
      pub others : (j : ℕ) (u : View T) → j ≢ holder → get_elem? s.views j ≡ some u → u.took ≡ None

    -- the rule: what each view knows is true of the value at home, or of the value as it was taken; of each side there is
    -- one view at most; and the turn is free, or one view holds it
    pub record Kept (s : State (Option T) (View T)) : Type 0 where
      pub value : T
      pub word : length s.words ≡ 1
      pub fits : (j : ℕ) (u : View T) → get_elem? s.views j ≡ some u → Fits u value
      pub one : (s' : Side) (i j : ℕ) (u v : View T) → get_elem? s.views i ≡ some u → get_elem? s.views j ≡ some v
          → is_some (last_known u s') ≡ true → is_some (last_known v s') ≡ true → i ≡ j
      pub turn : IsFree s value ⊎ IsHeld s value

    -- the step that takes the turn: where it found 0, it has the value, of which all that it knew is true; else one more
    -- try is counted
    abbrev pub Takes : Step (Option T) → Me (Option T) (View T) → ℕ → Me (Option T) (View T) → Type 0
    Takes st m r m' =
        (r ≡ 0 → (v : T) × Fits m.0 v × (m' ≡ (after_taking m.0 v, (0, Some v) ∷ [])))
        × (r ≢ 0 → m' ≡ (after_try m.0, []))

  -- the step that gives the turn, with the value w in its place: w is known from now on
  abbrev pub Gives : Step (Option T) → Me (Option T) (View T) → ℕ → Me (Option T) (View T) → Type 0
  Gives st m r m' = (w : T) → m.1 ≡ (0, Some w) ∷ [] → m' ≡ (after_giving m.0 w, [])
