-- Values in bytes, the highest byte first.
use Rattle.std.specs.Prelude.{◌≡◌, ◌⊎◌, ℕ, ◌+◌, ◌*◌, List, ◌++◌, length, take, drop, fold}

-- the bytes of a byte, of a word or of a double word
abbrev pub IsWidth : ℕ → Type 0
IsWidth width = (width ≡ 1) ⊎ (width ≡ 2) ⊎ (width ≡ 4)

-- the value of bytes of which the first is the highest
abbrev pub value_of : List ℕ → ℕ
value_of bytes = fold (λ value byte. value * 256 + byte) 0 bytes

-- bytes with a piece of them written anew, from a place on
abbrev pub overwritten : List ℕ → ℕ → List ℕ → List ℕ
overwritten bytes from piece = take from bytes ++ piece ++ drop (from + length piece) bytes
