-- The pair as a machine of visits.
use Rattle.std.specs.Prelude.{ℕ, ◌+◌, ◌-◌, ◌==◌, Bool, true, false, ◌&&◌, ◌||◌, not, if◌then◌else◌, nat_lt, List, [], ◌∷◌, ◌++◌, length, Option, Some, None}
use Rattle.s7_events.specs.declared.entry.Side.{Side}
use Rattle.s7_events.specs.declared.entry.Side.TheVariants.{A, B}
use Rattle.s7_events.specs.declared.entry.Entry.{Entry}
use Rattle.s7_events.specs.declared.entry.Request.{Request}
use Rattle.s7_events.specs.declared.entry.Answer.{Answer}
use Rattle.s7_events.specs.declared.entry.StopCode.{StopCode}
use Rattle.mc_machine.specs.Meaning.{std, next_of}
use Rattle.pair_core.specs.declared.endings.Ended.{Ended}
use Rattle.pair_core.specs.declared.endings.Ended.TheVariants.{End, Stop, NoneLeft}
use Rattle.pair_core.specs.declared.turns.Reason.TheVariants as reasons
use Rattle.pair_core.specs.declared.turns.Turn.{Turn}
use Rattle.pair_core.specs.declared.turns.Turn.TheVariants as turns
use Rattle.pair_core.specs.declared.turns.Act.{Act}
use Rattle.pair_core.specs.declared.turns.Act.TheVariants.{Over, Dead, Take, Show, Mark, Unmarked, Behind, Append}
use Rattle.pair_core.specs.OwnParts.{OwnPart, own_place, taken_one, first_part}
use Rattle.pair_core.specs.declared.sides.Sides.{Sides}
use Rattle.pair_core.specs.Setup.{Setup}
use Rattle.pair_core.specs.Ledger.{ledger, standing}
use Rattle.pair_core.specs.Lawful.{answer_at}
use Rattle.pair_core.specs.Sides.{same_side, other_side, of_side, with_side, runs}
use Rattle.pair_core.specs.declared.standing.Standing.{Standing}
use Rattle.pair_core.specs.Cuts.{is_cut, is_late}
use Rattle.pair_core.specs.Stops.{stop_of}
use Rattle.pair_core.specs.Endings.{ends_by_output, may_grow}
use Rattle.pair_core.specs.Played.{answers_of}
use Rattle.pair_core.specs.Turns.{is_over}
use Rattle.pair_core.specs.Returns.{Return}

-- what both sides share: the record, the showings in their order, and one past the last output that is marked
pub record Log : Type 0 where
  pub entries : List Entry
  pub shown : List (ℕ × Side)
  pub marked : ℕ

-- the log, what is kept of each side, and the return that is under way, if one is
pub record World : Type 0 where
  pub log : Log
  pub parts : Sides OwnPart
  pub back : Option Return

-- what is kept of one side
abbrev pub part : World → Side → OwnPart
part w s = of_side w.parts s

-- who runs after the record
abbrev pub standing_in : Setup → Log → Standing
standing_in p l = standing p l.entries

-- another entry may follow
unfoldable pub is_open : Setup → Log → Bool
is_open p l = may_grow p.plan l.entries

-- the last entry is an output that is not marked
unfoldable pub is_pending : Log → Bool
is_pending l = ends_by_output l.entries && nat_lt l.marked (length l.entries)

-- one past the last entry that the side showed
abbrev pub shown_past_from : ℕ → List (ℕ × Side) → Side → ℕ
shown_past_from past [] s = past
shown_past_from past (x ∷ xs) s = shown_past_from (if same_side x.1 s then x.0 + 1 else past) xs s

abbrev pub shown_past : List (ℕ × Side) → Side → ℕ
shown_past xs s = shown_past_from 0 xs s

-- the side has shown the last entry
unfoldable pub has_shown : Log → Side → Bool
has_shown l s = shown_past l.shown s == length l.entries

-- A visit finds the side cut: the script stops it now. But a late master is not yet cut while its last output is neither
-- shown by it nor marked; and nobody is cut from the entry on that ends the run.
unfoldable pub is_down : Setup → Log → Side → Bool
is_down p l s =
    is_open p l && is_cut p.plan s (length l.entries)
    && not (is_late p.plan s (length l.entries) && same_side s (standing_in p l).master && is_pending l && not (has_shown l s))

abbrev pub is_left : Setup → Log → Side → Bool
is_left p l s = runs (standing_in p l) s && not (is_down p l s)

-- the side runs, and has not taken all entries
abbrev pub is_behind : Setup → World → Side → Bool
is_behind p w s = runs (standing_in p w.log) s && nat_lt (own_place (part w s)) (length w.log.entries)

-- the end of a run whose entries are all taken: by a stop; or full, once all outputs are marked
abbrev pub end_by : Option StopCode → Bool → Option Ended
end_by (Some code) pending = Some (Stop code)
end_by None true = None
end_by None false = Some End

-- how the run has ended, if it has
unfoldable pub ended : Setup → World → Option Ended
ended p w =
    if is_open p w.log then (if is_left p w.log A || is_left p w.log B then None else Some NoneLeft)
    else (if is_behind p w A || is_behind p w B then None else end_by (stop_of w.log.entries) (is_pending w.log))

abbrev pub unless_over : Option Ended → Act → Act
unless_over None act = act
unless_over (Some ending) act = Over ending

-- the side is not the one that shows an unmarked output: it is not master, and the master is not cut
abbrev pub must_wait : Setup → Log → Side → Bool
must_wait p l s = not (same_side s (standing_in p l).master) && not (is_down p l (standing_in p l).master)

-- the other side runs, is not cut, and has not taken all entries
abbrev pub waits_for_other : Setup → World → Side → Bool
waits_for_other p w s =
    runs (standing_in p w.log) (other_side s) && not (is_down p w.log (other_side s)) && nat_lt (own_place (part w (other_side s))) (length w.log.entries)

-- what a visit does with a side that runs and has taken all entries
abbrev pub when_taken : Setup → World → Side → Act
when_taken p w s =
    if is_pending w.log then (if must_wait p w.log s then Unmarked else (if has_shown w.log s then Mark else Show))
    else (if waits_for_other p w s then Behind else Append)

-- what a visit does: the first that applies
unfoldable pub choose : Setup → World → Side → Act
choose p w s =
    unless_over (ended p w)
    (if is_down p w.log s || not (runs (standing_in p w.log) s) then Dead
    else (if nat_lt (own_place (part w s)) (length w.log.entries) then Take else when_taken p w s))

-- the new world, and the answer to the visitor
pub record Stepped : Type 0 where
  pub world : World
  pub answer : Turn

abbrev pub entry_with : Request → Option Answer → Option Entry
entry_with request None = None
entry_with request (Some answer) = Some (record { request = request; answer = answer })

abbrev pub entry_for : Setup → Log → Option Request → Option Entry
entry_for p l None = None
entry_for p l (Some request) = entry_with request (answer_at p (ledger p l.entries) request)

-- the entry that comes next: what the standard CPU asks after the record's answers, with the lawful answer
abbrev pub next_entry : Setup → Log → Option Entry
next_entry p l = entry_for p l (next_of (std p.program (answers_of l.entries)))

abbrev pub with_entry : Log → Entry → Log
with_entry l e = record l { entries = l.entries ++ e ∷ [] }

abbrev pub with_shown : Log → Side → Log
with_shown l s = record l { shown = l.shown ++ (length l.entries - 1, s) ∷ [] }

abbrev pub with_marked : Log → Log
with_marked l = record l { marked = length l.entries }

abbrev pub with_own : World → Side → OwnPart → World
with_own w s own = record w { parts = with_side w.parts s own }

-- the side appends the entry and takes it; where none may come, which no visit meets, nothing is done
abbrev pub appended : World → Side → Option Entry → Stepped
appended w s None = record { world = w; answer = turns.Dead }
appended w s (Some e) = record {
  world = record w { log = with_entry w.log e; parts = with_side w.parts s (taken_one (part w s)) };
  answer = turns.Answered (length w.log.entries);
}

abbrev pub acted : Setup → World → Side → Act → Stepped
acted p w s (Over ending) = record { world = with_own w s (record (part w s) { over = true }); answer = turns.Over ending }
acted p w s Dead = record { world = with_own w s (record (part w s) { alive = false }); answer = turns.Dead }
acted p w s Take = record { world = with_own w s (taken_one (part w s)); answer = turns.Answered (own_place (part w s)) }
acted p w s Show = record { world = record w { log = with_shown w.log s }; answer = turns.Show (length w.log.entries - 1) }
acted p w s Mark = record { world = record w { log = with_marked w.log }; answer = turns.Marked (length w.log.entries - 1) }
acted p w s Unmarked = record { world = w; answer = turns.NotYet (reasons.Unmarked (length w.log.entries - 1)) }
acted p w s Behind = record { world = w; answer = turns.NotYet (reasons.Behind (own_place (part w (other_side s)))) }
acted p w s Append = appended w s (next_entry p w.log)

-- one visit of a side
abbrev pub step : Setup → World → Side → Stepped
step p w s = acted p w s (choose p w s)

-- visits by these letters, up to the first that is answered Over
abbrev pub play : Setup → World → List Side → World
play p w [] = w
play p w (s ∷ ss) = if is_over (step p w s).answer then (step p w s).world else play p (step p w s).world ss

-- what a pair is made for, and its world
pub record Game : Type 0 where
  pub setup : Setup
  pub world : World

abbrev pub first_world : Bool → World
first_world solo = record {
  log = record { entries = []; shown = []; marked = 0 };
  parts = record { a = first_part true; b = first_part (not solo) };
  back = None;
}
