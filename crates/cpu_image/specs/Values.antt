-- Bits and values in bytes.
use Rattle.std.specs.Prelude.{◌≡◌, ◌⊎◌, ℕ, ◌+◌, ◌-◌, ◌*◌, ◌/◌, ◌%◌, ◌^◌, ◌==◌, Bool, if◌then◌else◌, List, ◌++◌, length, take, drop, fold, bit_or, bit_and}

-- a value has 1, 2 or 4 bytes
abbrev pub IsWidth : ℕ → Type 0
IsWidth width = (width ≡ 1) ⊎ (width ≡ 2) ⊎ (width ≡ 4)

-- the value of bytes, the highest first
abbrev pub value_of : List ℕ → ℕ
value_of bytes = fold (λ value byte. value * 256 + byte) 0 bytes

-- a bit of a byte, bit 0 the lowest
abbrev pub bit_in : ℕ → ℕ → Bool
bit_in byte bit = byte / 2 ^ bit % 2 == 1

-- the byte with this bit 1 or 0
abbrev pub with_bit : ℕ → ℕ → Bool → ℕ
with_bit byte bit value = if value then bit_or byte (2 ^ bit) else bit_and byte (255 - 2 ^ bit)

-- bytes with a piece of them written anew, from a place on
abbrev pub overwritten : List ℕ → ℕ → List ℕ → List ℕ
overwritten bytes from piece = take from bytes ++ piece ++ drop (from + length piece) bytes
