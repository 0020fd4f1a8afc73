-- What the text of a run tells.
use Rattle.std.specs.Prelude.{◌≡◌, ℕ, ◌<◌, ◌^◌, Bool, Some, None, List, length, All}
use Rattle.s7_events.specs.declared.entry.Side.{Side}
use Rattle.s7_events.specs.declared.entry.Ask.{Ask}
use Rattle.s7_events.specs.declared.entry.Ask.TheVariants as asks
use Rattle.s7_events.specs.declared.entry.Request.{Request}
use Rattle.s7_events.specs.declared.entry.Entry.{Entry}
use Rattle.s7_base.specs.Blocks.{Program}
use Rattle.plant_script.specs.Plan.{Plan, IsPlan}
use Rattle.trace_text.specs.declared.mode.Mode.{Mode}
use Rattle.trace_text.specs.declared.mode.Mode.TheVariants.{Solo, Pair, TailOnly}
use Rattle.pair_core.specs.declared.endings.Ended.{Ended}
use Rattle.pair_core.specs.Played.{IsRun}
use Rattle.trace_text.specs.Tail.{Tail}
use Rattle.trace_text.specs.Text.{text}

-- a run, and how it is written: its script and whether side A is alone; its record, its showings and its end; the mode of
-- its text, and the tail that the text has where the run has one
pub record Run : Type 0 where
  pub plan : Plan
  pub solo : Bool
  pub entries : List Entry
  pub showings : List (ℕ × Side)
  pub ended : Ended
  pub mode : Mode
  pub tail : Tail

abbrev pub text_of : Run → List ℕ
text_of run = text run.mode run.entries run.showings run.ended run.tail

-- the record is written, not the tail alone
abbrev pub HasRecord : Mode → Type 0
HasRecord Solo = Unit {0}
HasRecord Pair = Unit {0}
HasRecord TailOnly = ⊥

-- a run of this program, by a script without fault, whose text has the record
pub record IsWritten (program : Program) (given : Run) : Type 0 where
  pub plan : IsPlan given.plan
  pub run : IsRun program given.plan given.solo given.entries given.showings given.ended
  pub has_record : HasRecord given.mode

-- the same record, the same showings and the same end
pub record AreSame (first second : Run) : Type 0 where
  pub entries : first.entries ≡ second.entries
  pub showings : first.showings ≡ second.showings
  pub ended : first.ended ≡ second.ended

-- Of two runs of a program that have one text, the records, the showings and the ends are the same, whatever their scripts,
-- modes and tails.
abbrev pub TextDetermines : Program → Run → Run → Type 0
TextDetermines program first second =
    IsWritten program first → IsWritten program second → text_of first ≡ text_of second → AreSame first second

-- where these are the texts of two runs of the program, the runs are the same
abbrev pub AreOfOneRun : Program → Run → Run → List ℕ → List ℕ → Type 0
AreOfOneRun program one two first second =
    IsWritten program one → IsWritten program two → text_of one ≡ first → text_of two ≡ second → AreSame one two

-- What is asked lies in the ranges of its types: an image has 64 bytes, an address 16 bits, a width 8 bits; and a value lies
-- in as many bytes as are written of it.
abbrev pub IsInRange : Ask → Type 0
IsInRange (asks.Outputs bytes) = length bytes ≡ 64
IsInRange asks.Inputs = Unit {0}
IsInRange asks.Cycle = Unit {0}
IsInRange (asks.ReadP addr width) = (addr < 2 ^ 16) × (width < 2 ^ 8)
IsInRange (asks.WriteP addr width value) = (addr < 2 ^ 16) × (width < 2 ^ 8) × (value < 256 ^ width)
IsInRange asks.Now = Unit {0}
IsInRange asks.Tick = Unit {0}
IsInRange asks.Retrigger = Unit {0}
IsInRange (asks.Reply None) = Unit {0}
IsInRange (asks.Reply (Some value)) = value < 256 ^ 4
IsInRange (asks.Stop code) = Unit {0}

-- so does the priority
pub record IsRequest (request : Request) : Type 0 where
  pub prio : request.prio < 2 ^ 8
  pub ask : IsInRange request.ask

-- the requests of a record
abbrev pub AreRequests : List Entry → Type 0
AreRequests entries = All (λ entry. IsRequest entry.request) entries

-- The same of runs of two programs, where the requests lie in the ranges of their types.
abbrev pub TextAloneDetermines : Program → Program → Run → Run → Type 0
TextAloneDetermines program other first second =
    IsWritten program first → AreRequests first.entries → IsWritten other second → AreRequests second.entries
    → text_of first ≡ text_of second → AreSame first second
