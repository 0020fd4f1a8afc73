-- What holds of a world that was reached by visits.
use Rattle.std.specs.Prelude.{ℕ, ◌+◌, ◌≡◌, ◌≤◌, Bool, true, false, ◌&&◌, ◌||◌, not, if◌then◌else◌, ◌⊎◌, List, [], ◌∷◌, ◌++◌, length, Some, is_some}
use Rattle.s7_events.specs.declared.entry.Side.{Side}
use Rattle.s7_events.specs.declared.entry.Loss.TheVariants.{Suspect}
use Rattle.s7_events.specs.declared.entry.Answer.TheVariants.{Lost}
use Rattle.s7_events.specs.declared.entry.Entry.{Entry}
use Rattle.mc_machine.specs.Meaning.{asked}
use Rattle.pair_core.specs.OwnParts.{OwnPart, own_place, only_life}
use Rattle.pair_core.specs.Setup.{Setup}
use Rattle.pair_core.specs.Ledger.{standing}
use Rattle.pair_core.specs.Sides.{other_side, runs, first_standing}
use Rattle.pair_core.specs.Cuts.{is_cut, is_late}
use Rattle.pair_core.specs.Lawful.{IsLawful}
use Rattle.pair_core.specs.Showings.{is_output, tagged, shown_of}
use Rattle.pair_core.specs.Played.{requests_of, answers_of}
use Rattle.pair_core.specs.Losses.{lost_at, IsNear}
use Rattle.pair_core.specs.World.{Log, World, part, standing_in, is_down, ended}

-- one past the last output
abbrev pub marked_from : ℕ → ℕ → List Entry → ℕ
marked_from past k [] = past
marked_from past k (e ∷ es) = marked_from (if is_output e then k + 1 else past) (k + 1) es

abbrev pub marked_of : List Entry → ℕ
marked_of es = marked_from 0 0 es

-- which of the master and the other side have shown the last output
abbrev pub shown_by : Side → Bool → Bool → List Side
shown_by m master other = (if master then m ∷ [] else []) ++ (if other then other_side m ∷ [] else [])

-- those that have shown it are the first of those that are to show it
abbrev pub may_have : Bool → Bool → Bool → Bool → Bool → Bool
may_have false late avail master other = not other
may_have true false avail master other = not master && (not other || avail)
may_have true true avail master other = not other || (master && avail)

-- the side that is not master runs, and the script does not stop it
abbrev pub is_available : Setup → Log → Bool
is_available p l =
    runs (standing_in p l) (other_side (standing_in p l).master) && not (is_cut p.plan (other_side (standing_in p l).master) (length l.entries))

-- every output is marked, and its showings are whole
pub record Settled (p : Setup) (l : Log) : Type 0 where
  pub shown : l.shown ≡ shown_of p l.entries
  pub marked : l.marked ≡ marked_of l.entries

-- the last entry is an output that is not marked; its showings are the first of those that it is to have
pub record Pending (p : Setup) (l : Log) : Type 0 where
  pub front : List Entry
  pub last : Entry
  pub is : l.entries ≡ front ++ last ∷ []
  pub output : is_output last ≡ true
  pub marked : l.marked ≡ marked_of front
  pub by_master : Bool
  pub by_other : Bool
  pub shown : l.shown ≡ shown_of p front ++ tagged (length front) (shown_by (standing_in p l).master by_master by_other)
  pub allowed : may_have (is_cut p.plan (standing_in p l).master (length l.entries)) (is_late p.plan (standing_in p l).master (length l.entries)) (is_available p l) by_master by_other ≡ true

-- The record is lawful, and its requests are the standard CPU's.
pub record IsSameRecord (p : Setup) (es : List Entry) : Type 0 where
  pub lawful : IsLawful p es
  pub requests : requests_of es ≡ asked p.program (answers_of es)
  pub within : length es ≤ p.plan.end
  -- the master runs
  pub master : runs (standing p es) (standing p es).master ≡ true
  -- no side that runs after an entry was cut at that entry
  pub fresh : (s : Side) → runs (standing p es) s ≡ true → (k : ℕ) → k + 1 ≡ length es → is_cut p.plan s k ≡ false

-- what is shown follows from the record: whole lists, but that those of an unmarked last output may be cut short
abbrev pub IsSameShown : Setup → Log → Type 0
IsSameShown p l = Settled p l ⊎ Pending p l

pub record GoodLog (p : Setup) (l : Log) : Type 0 where
  pub same : IsSameRecord p l.entries
  pub shows : IsSameShown p l

-- a side that runs has taken all entries, or all but the last; its life is open unless it is cut
pub record IsRunningSide (p : Setup) (l : Log) (s : Side) (own : OwnPart) : Type 0 where
  pub near : length l.entries ≤ own_place own + 1
  pub alive : is_down p l s ≡ false → own.alive ≡ true

-- where a side is
pub record IsSameSide (p : Setup) (l : Log) (s : Side) (own : OwnPart) : Type 0 where
  -- it has not taken more entries than there are
  pub few : own_place own ≤ length l.entries
  -- it has one life, which began by a load, exactly if it ran at first
  pub lives : own.lives ≡ only_life (runs (first_standing p.solo) s) (own_place own)
  pub running : runs (standing_in p l) s ≡ true → IsRunningSide p l s own
  -- where it was lost it had taken all entries before that, or all but one
  pub lost : (j : ℕ) → lost_at l.entries s ≡ Some j → IsNear (own_place own) j

-- the last entry is the loss of a side for suspicion
pub record EndsBySuspicion (es : List Entry) : Type 0 where
  pub front : List Entry
  pub last : Entry
  pub is : es ≡ front ++ last ∷ []
  pub side : Side
  pub lost : last.answer ≡ Lost side Suspect

-- where every side that runs has taken all entries but the last, a side was lost by that entry, which it appended itself
abbrev pub LastIsTaken : Setup → World → Type 0
LastIsTaken p w = ((s : Side) → runs (standing_in p w.log) s ≡ true → own_place (part w s) + 1 ≡ length w.log.entries) → EndsBySuspicion w.log.entries

-- a side was answered Over only once the run has ended
abbrev pub OverIsEnded : Setup → World → Type 0
OverIsEnded p w = (s : Side) → (part w s).over ≡ true → is_some (ended p w) ≡ true

-- the pair keeps its word: of the record, of what is shown, and of the sides
pub record Good (p : Setup) (w : World) : Type 0 where
  pub log : GoodLog p w.log
  pub sides : (s : Side) → IsSameSide p w.log s (part w s)
  pub taken : LastIsTaken p w
  pub over : OverIsEnded p w
