-- What a sink in memory holds, and what it takes of a piece.
use Rattle.std.specs.Prelude.{ℕ, ◌+◌, ◌-◌, ◌^◌, ◌≡◌, ◌<◌, ◌≤◌, ◌==◌, ◌⊎◌, min, Bool, IsTrue, List, [], length, take, if◌then◌else◌}
use Rattle.std.specs.List.{list_any}
use Rattle.pair_io.specs.declared.mem_sink.MemSink.{MemSink}

abbrev pub written_bytes : MemSink → List ℕ
written_bytes sink = sink.bytes.items

abbrev pub room_of : MemSink → ℕ
room_of sink = sink.room

abbrev pub fault_count : MemSink → ℕ
fault_count sink = sink.faults

-- how many writes were made
abbrev pub write_count : MemSink → ℕ
write_count sink = sink.writes

-- the numbers of the writes that are to fail
abbrev pub failing_writes : MemSink → List ℕ
failing_writes sink = sink.failing.items

-- the next write is one of those that are to fail
abbrev pub is_chosen : MemSink → Bool
is_chosen sink = list_any (λ n. n == write_count sink) (failing_writes sink)

-- what the next write adds
abbrev pub taken_of : MemSink → List ℕ → List ℕ
taken_of sink piece = if is_chosen sink then [] else take (room_of sink - length (written_bytes sink)) piece

-- the next write fails
abbrev pub IsRefused : MemSink → List ℕ → Type 0
IsRefused sink piece = IsTrue (is_chosen sink) ⊎ (room_of sink < length (written_bytes sink) + length piece)

-- no write is to fail, and there is room for so many more bytes
abbrev pub Takes : MemSink → ℕ → Type 0
Takes sink more = (failing_writes sink ≡ []) × (length (written_bytes sink) + more ≤ room_of sink)

-- one more write was made, and the room and the writes that are to fail are as before
pub record IsAfterWrite (old new : MemSink) : Type 0 where
  pub writes : write_count new ≡ min (write_count old + 1) (2 ^ 64 - 1)
  pub failing : failing_writes new ≡ failing_writes old
  pub room : room_of new ≡ room_of old
