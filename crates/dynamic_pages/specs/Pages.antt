-- The pages of timers, counters and diagnostic entries: their bytes lie one after another, over the borders of pages of 256 bytes.
use Rattle.std.specs.Prelude.{◌≡◌, ℕ, ◌+◌, ◌*◌, List, map, take, drop, length, slice_index, All}
use Rattle.std.specs.List.{flat_map, range_with_len}
use Rattle.timers.specs.Bytes as timers
use Rattle.timers.specs.State.{TimerState}
use Rattle.counters.specs.Bytes as counters
use Rattle.counters.specs.State.{CounterState}
use Rattle.diag_buffer.specs.declared.note.Note.{Note}
use Rattle.dynamic_pages.specs.Notes as notes

-- page k of bytes that lie from the beginning of page 0 on, with 0 past their end
unfoldable pub page_of : List ℕ → ℕ → List ℕ
page_of bytes k = map (λ i. slice_index bytes (256 * k + i)) (range_with_len 0 256)

abbrev pub timer_bytes : List TimerState → List ℕ
timer_bytes all = flat_map timers.bytes_of all

abbrev pub counter_bytes : List CounterState → List ℕ
counter_bytes all = flat_map counters.bytes_of all

abbrev pub note_bytes : List Note → List ℕ
note_bytes all = flat_map notes.bytes_of all

-- element k of bytes, where each has so many
abbrev pub part : ℕ → List ℕ → ℕ → List ℕ
part width bytes k = take width (drop (width * k) bytes)

-- a timer whose numbers fit its bytes
pub record IsStoredTimer (t : TimerState) : Type 0 where
  pub form : timers.IsTimer (timers.bytes_of t)
  pub again : timers.timer_of (timers.bytes_of t) ≡ t

-- a counter whose numbers fit its bytes
pub record IsStoredCounter (c : CounterState) : Type 0 where
  pub form : counters.IsCounter (counters.bytes_of c)
  pub again : counters.counter_of (counters.bytes_of c) ≡ c

-- bytes that begin with those of 256 timers
pub record HoldTimers (stored : List ℕ) (all : List TimerState) : Type 0 where
  pub count : length all ≡ 256
  pub fit : All IsStoredTimer all
  pub bytes : take 6144 stored ≡ timer_bytes all

-- bytes that begin with those of 256 counters
pub record HoldCounters (stored : List ℕ) (all : List CounterState) : Type 0 where
  pub count : length all ≡ 256
  pub fit : All IsStoredCounter all
  pub bytes : take 1024 stored ≡ counter_bytes all
