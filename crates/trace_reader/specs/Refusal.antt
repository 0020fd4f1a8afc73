-- The line at which a text is refused: the first that fits no trace which begins with the lines before it.
use Rattle.std.specs.Prelude.{◌≡◌, ℕ, ◌+◌, ◌<◌, ◌==◌, List, [], ◌∷◌, ◌++◌, length, Option, Some, None, if◌then◌else◌}
use Rattle.std.specs.List.{flat_map}
use Rattle.trace_reader.specs.declared.trace.Note.{Note}
use Rattle.trace_reader.specs.declared.trace.Areas.{Areas}
use Rattle.trace_reader.specs.declared.reading.Stop.{Stop}
use Rattle.trace_reader.specs.declared.reading.Stop.TheVariants as stops
use Rattle.trace_reader.specs.declared.reading.TraceFault.{TraceFault}
use Rattle.trace_reader.specs.declared.reading.TraceFault.TheVariants.{Line, NoMemory}
use Rattle.trace_reader.specs.Parts.{TailParts, TraceParts}
use Rattle.trace_reader.specs.Text.{note_line, area_lines, counter_line, count_line, notes_and_after, text_of}
use Rattle.trace_reader.specs.Lines.{count_at, block_at, counter_at}
use Rattle.trace_reader.specs.Ranges.{Each, FitsNote, FitsAreas, FitsTail, IsTrace}

-- the number of a line, after these bytes
abbrev pub lines_after : ℕ → List ℕ → ℕ
lines_after number [] = number
lines_after number (byte ∷ bytes) = if byte == 10 then lines_after (number + 1) bytes else lines_after number bytes

-- a trace has a text that begins so
abbrev pub BeginsTrace : List ℕ → Type 0
BeginsTrace front = (trace : TraceParts) × (rest : List ℕ) × IsTrace trace × (text_of trace ≡ front ++ rest)

-- with one more line of the rest, or with several, nothing begins so any more
abbrev pub NoLineFits : (List ℕ → Type 0) → List ℕ → List ℕ → Type 0
NoLineFits Begins front rest = (more later : List ℕ) → rest ≡ more ++ (10 ∷ later) → Begins (front ++ (more ++ (10 ∷ []))) → ⊥

-- The text up to a place in this line, counted from 1, begins a trace; and up to the end of this line, or of a later one, it begins
-- none. Where the text ends before the line does, it breaks off in it.
abbrev pub IsFirstMisfit : List ℕ → TraceFault → Type 0
IsFirstMisfit text (Line line) =
    (front : List ℕ) × (rest : List ℕ) × (text ≡ front ++ rest) × (line ≡ lines_after 1 front) × BeginsTrace front × NoLineFits BeginsTrace front rest
IsFirstMisfit text NoMemory = Unit {0}

-- ---- the same of a section of the text

-- this number of bytes before its end the text stops to fit: what stands before them lies within a section, and with one more line no section begins so
abbrev pub StopsAt : (List ℕ → Type 0) → (List ℕ → Type 0) → List ℕ → ℕ → Type 0
StopsAt Within Begins text left =
    (front : List ℕ) × (rest : List ℕ) × (text ≡ front ++ rest) × (length rest ≡ left) × Within front × NoLineFits Begins front rest

abbrev pub WithinNotes : ℕ → List ℕ → Type 0
WithinNotes count front = (notes : List Note) × (rest : List ℕ) × (length notes ≡ count) × Each FitsNote notes × (flat_map note_line notes ≡ front ++ rest)

abbrev pub BeginsNotes : ℕ → List ℕ → Type 0
BeginsNotes count front =
    (notes : List Note) × (after : List ℕ) × (rest : List ℕ) × (length notes ≡ count) × Each FitsNote notes × (flat_map note_line notes ++ after ≡ front ++ rest)

abbrev pub WithinAreas : List ℕ → Type 0
WithinAreas front = (areas : Areas) × (rest : List ℕ) × FitsAreas areas × (area_lines areas ≡ front ++ rest)

abbrev pub BeginsAreas : List ℕ → Type 0
BeginsAreas front = (areas : Areas) × (after : List ℕ) × (rest : List ℕ) × FitsAreas areas × (area_lines areas ++ after ≡ front ++ rest)

abbrev pub WithinTail : ℕ → List ℕ → Type 0
WithinTail count front = (tail : TailParts) × (rest : List ℕ) × (length tail.notes ≡ count) × FitsTail (Some tail) × (notes_and_after tail ≡ front ++ rest)

abbrev pub BeginsTail : ℕ → List ℕ → Type 0
BeginsTail count front =
    (tail : TailParts) × (after : List ℕ) × (rest : List ℕ) × (length tail.notes ≡ count) × FitsTail (Some tail) × (notes_and_after tail ++ after ≡ front ++ rest)

-- where reading the diagnostic entries, the areas or the tail stopped
abbrev pub NotesStop : ℕ → List ℕ → Stop → Type 0
NotesStop count text (stops.Left left) = StopsAt (WithinNotes count) (BeginsNotes count) text left
NotesStop count text stops.NoMemory = Unit {0}

abbrev pub AreasStop : List ℕ → Stop → Type 0
AreasStop text (stops.Left left) = StopsAt WithinAreas BeginsAreas text left
AreasStop text stops.NoMemory = Unit {0}

abbrev pub TailStop : List ℕ → Stop → Type 0
TailStop text (stops.Left left) =
    (count : ℕ) × (later : List ℕ) × (count < 4294967296) × (text ≡ count_line count ++ later) × StopsAt (WithinTail count) (BeginsTail count) later left
TailStop text stops.NoMemory = Unit {0}

abbrev pub TraceStop : List ℕ → Stop → Type 0
TraceStop text (stops.Left left) = StopsAt BeginsTrace BeginsTrace text left
TraceStop text stops.NoMemory = Unit {0}

-- no line of the tail is left in this text
abbrev pub TailIsOver : Option TailParts → List ℕ → Type 0
TailIsOver None text = count_at text ≡ None
TailIsOver (Some tail) text = (block_at (flat_map counter_line tail.counters ++ text) ≡ None) × (counter_at text ≡ None)
