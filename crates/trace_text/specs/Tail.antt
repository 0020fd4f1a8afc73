-- The tail of a text: the diagnostic entries and the images of a CPU.
use Rattle.std.specs.Prelude.{◌≡◌, ℕ, ◌+◌, ◌==◌, List, [], ◌∷◌, ◌++◌, length, Option, Some, None, unwrap_or, slice_get, if◌then◌else◌, codes}
use Rattle.std.specs.Option.{option_map}
use Rattle.std.specs.List.{flat_map}
use Rattle.std.specs.Fmt.{decimal}
use Rattle.s7_events.specs.declared.entry.Loss.TheVariants.{Failed, Suspect}
use Rattle.s7_events.specs.declared.diagnostics.Area.{Area}
use Rattle.s7_events.specs.declared.diagnostics.Area.TheVariants.{I, Q, M, Db, Timers, Counters, Registers}
use Rattle.s7_events.specs.declared.diagnostics.DiagCode.{DiagCode}
use Rattle.s7_events.specs.declared.diagnostics.DiagCode.TheVariants as diag
use Rattle.trace_text.specs.Image.{image}
use Rattle.trace_text.specs.EntryText.{lost_text, back_text, stop_word}

-- what a tail shows of a CPU: the diagnostic entries that it keeps, the oldest first, each with its moment; the bytes
-- of I, Q and M; by its number the bytes of each data block that is loaded; and by its number the value of each counter
pub record Tail : Type 0 where
  pub notes : List (ℕ × DiagCode)
  pub inputs : List ℕ
  pub outputs : List ℕ
  pub flags : List ℕ
  pub blocks : List (Option (List ℕ))
  pub counters : List ℕ

-- what stands for the tail of a run that has none
abbrev pub no_tail : Tail
no_tail = record { notes = []; inputs = []; outputs = []; flags = []; blocks = []; counters = [] }

-- the areas that a tail shows
abbrev pub IsTailArea : Area → Type 0
IsTailArea I = Unit {0}
IsTailArea Q = Unit {0}
IsTailArea M = Unit {0}
IsTailArea (Db number) = Unit {0}
IsTailArea Timers = ⊥
IsTailArea Counters = ⊥
IsTailArea Registers = ⊥

abbrev pub block_by : Option (Option (List ℕ)) → Option (List ℕ)
block_by None = None
block_by (Some block) = block

-- the bytes of a data block, where it is loaded
abbrev pub block_of : Tail → ℕ → Option (List ℕ)
block_of tail number = block_by (slice_get tail.blocks number)

-- the bytes of an area that a tail shows
abbrev pub area_bytes : Tail → Area → List ℕ
area_bytes tail I = tail.inputs
area_bytes tail Q = tail.outputs
area_bytes tail M = tail.flags
area_bytes tail (Db number) = unwrap_or (block_of tail number) []
area_bytes tail Timers = []
area_bytes tail Counters = []
area_bytes tail Registers = []

-- an area that a tail shows has so many bytes
abbrev pub IsOfSize : Tail → Area → ℕ → Type 0
IsOfSize tail I size = size ≡ 64
IsOfSize tail Q size = size ≡ 64
IsOfSize tail M size = size ≡ 1024
IsOfSize tail (Db number) size = option_map length (block_of tail number) ≡ Some size
IsOfSize tail Timers size = ⊥
IsOfSize tail Counters size = ⊥
IsOfSize tail Registers size = ⊥

abbrev pub diag_text : DiagCode → List ℕ
diag_text diag.Start = codes "START"
diag_text (diag.LostFailed side) = lost_text side Failed
diag_text (diag.LostSuspect side) = lost_text side Suspect
diag_text (diag.Back side) = back_text side
diag_text (diag.Error number) = codes "ERROR " ++ decimal number
diag_text diag.Cycle = codes "CYCLE"
diag_text (diag.Ob85 number) = codes "OB85 " ++ decimal number
diag_text (diag.Discrep address) = codes "DISCREP " ++ decimal address
diag_text (diag.Stop code) = codes "STOP " ++ stop_word code

-- a diagnostic entry: its moment and its text
abbrev pub note_line : (ℕ × DiagCode) → List ℕ
note_line note = decimal note.0 ++ codes " " ++ diag_text note.1 ++ codes "\n"

abbrev pub note_lines : List (ℕ × DiagCode) → List ℕ
note_lines notes = flat_map note_line notes

-- an area: its name and its image
abbrev pub area_line : List ℕ → List ℕ → List ℕ
area_line name bytes = name ++ codes " " ++ image bytes ++ codes "\n"

-- the images of I, Q and M
abbrev pub area_lines : Tail → List ℕ
area_lines tail = area_line (codes "I") tail.inputs ++ (area_line (codes "Q") tail.outputs ++ area_line (codes "M") tail.flags)

-- the number of the diagnostic entries
abbrev pub count_line : List (ℕ × DiagCode) → List ℕ
count_line notes = codes "DIAG " ++ decimal (length notes) ++ codes "\n"

-- a data block that is loaded: its number and its image
abbrev pub block_line : ℕ → Option (List ℕ) → List ℕ
block_line number None = []
block_line number (Some bytes) = codes "DB " ++ decimal number ++ codes " " ++ image bytes ++ codes "\n"

-- the data blocks from this number on
abbrev pub block_lines : ℕ → List (Option (List ℕ)) → List ℕ
block_lines number [] = []
block_lines number (block ∷ blocks) = block_line number block ++ block_lines (number + 1) blocks

-- a counter that is not 0: its number and its value
abbrev pub counter_line : ℕ → ℕ → List ℕ
counter_line number value = if value == 0 then [] else codes "C " ++ decimal number ++ codes " " ++ decimal value ++ codes "\n"

-- the counters from this number on
abbrev pub counter_lines : ℕ → List ℕ → List ℕ
counter_lines number [] = []
counter_lines number (value ∷ values) = counter_line number value ++ counter_lines (number + 1) values

-- `DIAG c` and the c diagnostic entries, the images of I, Q and M, the data blocks and the counters
abbrev pub tail_lines : Tail → List ℕ
tail_lines tail =
    count_line tail.notes
    ++ (note_lines tail.notes ++ (area_lines tail ++ (block_lines 0 tail.blocks ++ counter_lines 0 tail.counters)))
