-- The 16 bytes of a diagnostic entry. Numbers have the high byte first.
use Rattle.std.specs.Prelude.{ℕ, ◌^◌, ◌<◌, List, [], ◌∷◌, ◌++◌}
use Rattle.std.specs.Int.{w16, w32, w64, to_be_bytes}
use Rattle.s7_events.specs.declared.entry.Side.{Side}
use Rattle.s7_events.specs.declared.entry.Side.TheVariants as sides
use Rattle.s7_events.specs.declared.entry.StopCode.{StopCode}
use Rattle.s7_events.specs.declared.entry.StopCode.TheVariants as stops
use Rattle.s7_events.specs.declared.diagnostics.DiagCode.{DiagCode}
use Rattle.s7_events.specs.declared.diagnostics.DiagCode.TheVariants as said
use Rattle.diag_buffer.specs.declared.note.Note.{Note}

-- the number of a side
abbrev pub side_number : Side → ℕ
side_number sides.A = 0
side_number sides.B = 1

-- the number of a stop
abbrev pub stop_number : StopCode → ℕ
stop_number stops.Cycle = 0
stop_number stops.Sfc46 = 1
stop_number stops.NoOb121 = 2
stop_number stops.NoOb122 = 3
stop_number stops.NoOb85 = 4
stop_number stops.Depth = 5
stop_number stops.Local = 6
stop_number stops.InError = 7

-- the number of what an entry says, from 1 on
abbrev pub code_number : DiagCode → ℕ
code_number said.Start = 1
code_number (said.LostFailed side) = 2
code_number (said.LostSuspect side) = 3
code_number (said.Back side) = 4
code_number (said.Error error) = 5
code_number said.Cycle = 6
code_number (said.Ob85 ob) = 7
code_number (said.Discrep addr) = 8
code_number (said.Stop code) = 9

-- of what it says it: a side, an error, an OB, an address or a stop
abbrev pub detail_number : DiagCode → ℕ
detail_number said.Start = 0
detail_number (said.LostFailed side) = side_number side
detail_number (said.LostSuspect side) = side_number side
detail_number (said.Back side) = side_number side
detail_number (said.Error error) = error
detail_number said.Cycle = 0
detail_number (said.Ob85 ob) = ob
detail_number (said.Discrep addr) = addr
detail_number (said.Stop code) = stop_number code

-- moment (8), what it says (2), of what (4), 0 (2)
unfoldable pub bytes_of : Note → List ℕ
bytes_of note =
    to_be_bytes w64 note.moment ++ to_be_bytes w16 (code_number note.code) ++ to_be_bytes w32 (detail_number note.code) ++ 0 ∷ 0 ∷ []

-- what is told with it fits: an address two bytes, all else one
abbrev pub detail_limit : DiagCode → ℕ
detail_limit (said.Discrep addr) = 2 ^ 16
detail_limit code = 2 ^ 8

abbrev pub IsDetail : DiagCode → Type 0
IsDetail code = detail_number code < detail_limit code

-- the numbers of an entry fit its bytes
pub record IsStored (note : Note) : Type 0 where
  pub moment : note.moment < 2 ^ 64
  pub detail : IsDetail note.code
