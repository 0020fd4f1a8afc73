-- The bytes that a section has at first: zeros, and its first values, written in their order.
use Rattle.std.specs.Prelude.{ℕ, zero, suc, List, [], ◌∷◌, ◌+◌, ◌-◌, ◌/◌, ◌%◌, ◌^◌, ◌==◌, slice_index, slice_set, replicate, bit_and, bit_or, if◌then◌else◌}
use Rattle.stl_decl.specs.declared.layout.FirstValue.{FirstValue}
use Rattle.stl_decl.specs.Layout.{Section, size_of}

-- the byte with one bit 0 or 1
abbrev pub with_bit : ℕ → ℕ → ℕ → ℕ
with_bit byte bit value = if value == 0 then bit_and byte (255 - 2 ^ bit) else bit_or byte (2 ^ bit)

-- a value of one bit; a write past the end changes nothing, here and below
abbrev pub put_bit : ℕ → ℕ → List ℕ → List ℕ
put_bit bit value bytes = slice_set bytes (bit / 8) (with_bit (slice_index bytes (bit / 8)) (bit % 8) value)

-- a value of n bytes, the high byte first
abbrev pub put_bytes : ℕ → ℕ → ℕ → List ℕ → List ℕ
put_bytes at zero value bytes = bytes
put_bytes at (suc n) value bytes = put_bytes at n (value / 256) (slice_set bytes (at + n) (value % 256))

-- a value of so many bits at a bit
unfoldable pub put : ℕ → ℕ → ℕ → List ℕ → List ℕ
put bit bits value bytes = if bits == 1 then put_bit bit value bytes else put_bytes (bit / 8) (bits / 8) value bytes

-- n elements, one behind the other
unfoldable pub fill_elements : ℕ → ℕ → ℕ → ℕ → List ℕ → List ℕ
fill_elements zero bit bits value bytes = bytes
fill_elements (suc n) bit bits value bytes = fill_elements n (bit + bits) bits value (put bit bits value bytes)

-- the values, written in their order
unfoldable pub written : List FirstValue → List ℕ → List ℕ
written [] bytes = bytes
written (v ∷ vs) bytes = written vs (fill_elements v.count v.first_bit v.bits v.value bytes)

-- the bytes that a section has at first
abbrev pub first_bytes : Section → List ℕ
first_bytes s = written s.values (replicate (size_of s) 0)
