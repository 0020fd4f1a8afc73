-- How a run ended, by its record and its showings.
use Rattle.std.specs.Prelude.{◌≡◌, ℕ, ◌-◌, ◌<◌, ◌==◌, Bool, true, false, not, ◌&&◌, ◌||◌, nat_lt, List, [], ◌∷◌, length, take, Some, None, is_some}
use mathlib.Core.List.{IsPrefix}
use Rattle.s7_events.specs.declared.entry.Side.{Side}
use Rattle.s7_events.specs.declared.entry.Side.TheVariants.{A, B}
use Rattle.s7_events.specs.declared.entry.Entry.{Entry}
use Rattle.pair_core.specs.declared.endings.Ended.{Ended}
use Rattle.pair_core.specs.declared.endings.Ended.TheVariants.{End, Stop, NoneLeft, Spent, NotPlayed}
use Rattle.plant_script.specs.Plan.{Plan}
use Rattle.pair_core.specs.Cuts.{is_cut, is_late}
use Rattle.pair_core.specs.Setup.{Setup}
use Rattle.pair_core.specs.Ledger.{standing}
use Rattle.pair_core.specs.Sides.{same_side, runs}
use Rattle.pair_core.specs.Showings.{is_output, shown_of}
use Rattle.pair_core.specs.Stops.{stop_of}

abbrev pub is_pending_from : Bool → List Entry → Bool
is_pending_from before [] = before
is_pending_from before (e ∷ es) = is_pending_from (is_output e) es

-- the last entry is an output
abbrev pub ends_by_output : List Entry → Bool
ends_by_output es = is_pending_from false es

abbrev pub has_shown_from : Bool → List (ℕ × Side) → ℕ → Side → Bool
has_shown_from before [] k side = before
has_shown_from before (s ∷ shown) k side = has_shown_from (before || (s.0 == k && same_side s.1 side)) shown k side

-- the side has shown the last entry
abbrev pub has_shown_last : List Entry → List (ℕ × Side) → Side → Bool
has_shown_last es shown side = has_shown_from false shown (length es - 1) side

-- the script stops the side, and if it is a late master it has shown the last output
abbrev pub is_gone : Setup → List Entry → List (ℕ × Side) → Side → Bool
is_gone p es shown side =
    is_cut p.plan side (length es)
    && not (is_late p.plan side (length es) && same_side side (standing p es).master && ends_by_output es && not (has_shown_last es shown side))

abbrev pub stays_in : Setup → List Entry → List (ℕ × Side) → Side → Bool
stays_in p es shown side = runs (standing p es) side && not (is_gone p es shown side)

-- another entry may follow: the record is not full, and its last entry does not stop the CPU
abbrev pub may_grow : Plan → List Entry → Bool
may_grow plan es = nat_lt (length es) plan.end && not (is_some (stop_of es))

-- A visit finds the side cut after these entries and showings: the script stops it at the moment after them, and if it is a late
-- master it has shown the last output; but nobody is cut from the entry on that ends the run.
abbrev pub is_found_cut : Setup → List Entry → List (ℕ × Side) → Side → Bool
is_found_cut p es shown side = may_grow p.plan es && is_gone p es shown side

-- by a stop: the last entry stops the CPU; at the end: the record is full; by none: no side is left; spent: only with two
-- sides and given letters, while a side is left or all that is missing are the takings and marks
abbrev pub IsEnded : Setup → List Entry → List (ℕ × Side) → Ended → Type 0
IsEnded p es shown End = (stop_of es ≡ None) × (length es ≡ p.plan.end)
IsEnded p es shown (Stop code) = stop_of es ≡ Some code
IsEnded p es shown NoneLeft =
    (stop_of es ≡ None) × (length es < p.plan.end) × (stays_in p es shown A ≡ false) × (stays_in p es shown B ≡ false)
IsEnded p es shown Spent =
    (p.solo ≡ false) × (stop_of es ≡ None → length es < p.plan.end → (stays_in p es shown A || stays_in p es shown B) ≡ true)
IsEnded p es shown NotPlayed = ⊥

-- the showings of a run that ended: all of them, but that those of the last entry may be cut short where the letters were used up
abbrev pub IsShown : Setup → List Entry → Ended → List (ℕ × Side) → Type 0
IsShown p es End shown = shown ≡ shown_of p es
IsShown p es (Stop code) shown = shown ≡ shown_of p es
IsShown p es NoneLeft shown = shown ≡ shown_of p es
IsShown p es Spent shown = IsPrefix (shown_of p (take (length es - 1) es)) shown × IsPrefix shown (shown_of p es)
IsShown p es NotPlayed shown = ⊥

-- a run has a tail where the record ended or the CPU stopped
abbrev pub HasTail : Ended → Type 0
HasTail End = Unit {0}
HasTail (Stop code) = Unit {0}
HasTail NoneLeft = ⊥
HasTail Spent = ⊥
HasTail NotPlayed = ⊥
