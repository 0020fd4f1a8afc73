-- The text of a run.
use Rattle.std.specs.Prelude.{ℕ, ◌+◌, ◌==◌, List, [], ◌∷◌, ◌++◌, length, if◌then◌else◌, codes}
use Rattle.std.specs.Fmt.{decimal}
use Rattle.s7_events.specs.declared.entry.Side.{Side}
use Rattle.s7_events.specs.declared.entry.Entry.{Entry}
use Rattle.trace_text.specs.declared.mode.Mode.{Mode}
use Rattle.trace_text.specs.declared.mode.Mode.TheVariants.{Solo, Pair, TailOnly}
use Rattle.pair_core.specs.declared.endings.Ended.{Ended}
use Rattle.pair_core.specs.declared.endings.Ended.TheVariants.{End, Stop, NoneLeft, Spent, NotPlayed}
use Rattle.trace_text.specs.EntryText.{side_word, stop_word, entry_line}
use Rattle.trace_text.specs.Tail.{Tail, tail_lines}

-- the line of a showing of entry k, where one stands first in the list of showings that are left
abbrev pub showing_line : List ℕ → ℕ → List (ℕ × Side) → List ℕ
showing_line word k [] = []
showing_line word k (showing ∷ rest) = if showing.0 == k then word ++ side_word showing.1 ++ codes "\n" else []

-- the list without that showing
abbrev pub behind_showing : ℕ → List (ℕ × Side) → List (ℕ × Side)
behind_showing k [] = []
behind_showing k (showing ∷ rest) = if showing.0 == k then rest else showing ∷ rest

-- entry k: its line, `SHOW s` for its first showing and `AGAIN s` for its second
abbrev pub entry_text : ℕ → Entry → List (ℕ × Side) → List ℕ
entry_text k entry shown =
    entry_line k entry
    ++ (showing_line (codes "SHOW ") k shown ++ showing_line (codes "AGAIN ") k (behind_showing k shown))

-- the entries from entry k on, with the showings from its own on
abbrev pub entries_text : ℕ → List Entry → List (ℕ × Side) → List ℕ
entries_text k [] shown = []
entries_text k (entry ∷ entries) shown =
    entry_text k entry shown ++ entries_text (k + 1) entries (behind_showing k (behind_showing k shown))

-- the first line and the entries, or nothing
abbrev pub record_text : Mode → List Entry → List (ℕ × Side) → List ℕ
record_text Solo entries shown = codes "TRACE 1 SOLO\n" ++ entries_text 0 entries shown
record_text Pair entries shown = codes "TRACE 1 PAIR\n" ++ entries_text 0 entries shown
record_text TailOnly entries shown = []

-- a tail follows where the record ended or the CPU stopped
abbrev pub tail_text : Ended → Tail → List ℕ
tail_text End tail = tail_lines tail
tail_text (Stop code) tail = tail_lines tail
tail_text NoneLeft tail = []
tail_text Spent tail = []
tail_text NotPlayed tail = []

-- how the run ended, and the number of its entries; a run that was not played has no last line
abbrev pub last_line : Ended → ℕ → List ℕ
last_line End count = codes "END " ++ decimal count ++ codes "\n"
last_line (Stop code) count = codes "STOP " ++ decimal count ++ codes " " ++ stop_word code ++ codes "\n"
last_line NoneLeft count = codes "NONE " ++ decimal count ++ codes "\n"
last_line Spent count = codes "SPENT " ++ decimal count ++ codes "\n"
last_line NotPlayed count = []

-- the whole text: the record, the tail and the last line
abbrev pub text : Mode → List Entry → List (ℕ × Side) → Ended → Tail → List ℕ
text mode entries shown ended tail =
    record_text mode entries shown ++ (tail_text ended tail ++ last_line ended (length entries))
