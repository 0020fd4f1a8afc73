-- The four bytes of a counter: the value with the high byte first, the four edge bits, and 0.
use Rattle.std.specs.Prelude.{◌≡◌, ℕ, ◌+◌, ◌*◌, ◌/◌, ◌%◌, ◌^◌, ◌<◌, ◌≤◌, List, [], ◌∷◌, ◌++◌, Bool, ◌==◌, if◌then◌else◌, slice_index, take}
use Rattle.std.specs.Int.{w16, to_be_bytes, from_be_bytes}
use Rattle.counters.specs.State.{CounterState}

-- the bit of a truth value
abbrev pub flag : Bool → ℕ
flag b = if b then 1 else 0

-- the byte of the edge bits: CU in bit 0, CD in bit 1, S in bit 2, FR in bit 3
abbrev pub edges_of : CounterState → ℕ
edges_of c = flag c.cu_mem + 2 * flag c.cd_mem + 4 * flag c.s_mem + 8 * flag c.fr_mem

-- whether bit k of a byte is 1
abbrev pub has_bit : ℕ → ℕ → Bool
has_bit byte k = byte / 2 ^ k % 2 == 1

-- value (2), edge bits, 0
abbrev pub bytes_of : CounterState → List ℕ
bytes_of c = to_be_bytes w16 c.value ++ edges_of c ∷ 0 ∷ []

-- the counter of four bytes
abbrev pub counter_of : List ℕ → CounterState
counter_of bytes = record {
  value = from_be_bytes w16 (take 2 bytes);
  cu_mem = has_bit (slice_index bytes 2) 0;
  cd_mem = has_bit (slice_index bytes 2) 1;
  s_mem = has_bit (slice_index bytes 2) 2;
  fr_mem = has_bit (slice_index bytes 2) 3;
}

-- the bytes are those of a counter
pub record IsCounter (bytes : List ℕ) : Type 0 where
  pub value : from_be_bytes w16 (take 2 bytes) ≤ 999
  pub edges : slice_index bytes 2 < 16
  pub rest : slice_index bytes 3 ≡ 0
