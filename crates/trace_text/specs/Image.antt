-- How numbers and bytes are written in a line.
use Rattle.std.specs.Prelude.{ℕ, zero, suc, ◌*◌, ◌-◌, Bool, ◌+◌, ◌/◌, ◌%◌, ◌==◌, List, [], ◌∷◌, ◌++◌, nat_lt, if◌then◌else◌, codes}
use Rattle.std.specs.List.{flat_map}
use Rattle.std.specs.Fmt.{decimal}

-- an upper-case hexadecimal digit
abbrev pub hex_digit : ℕ → ℕ
hex_digit d = if nat_lt d 10 then 48 + d else 55 + d

-- a byte as two hexadecimal digits
abbrev pub hex_byte : ℕ → List ℕ
hex_byte b = hex_digit (b / 16) ∷ hex_digit (b % 16) ∷ []

-- a value of so many bytes, two hexadecimal digits a byte, the highest first
unfoldable pub hex : ℕ → ℕ → List ℕ
hex zero value = []
hex (suc width) value = hex width (value / 256) ++ hex_byte (value % 256)

-- an address and the byte there, as `12:0F`
abbrev pub cell : ℕ → ℕ → List ℕ
cell at byte = decimal at ++ 58 ∷ hex_byte byte

-- a cell, behind a comma where it is not the first
abbrev pub next_cell : Bool → ℕ → ℕ → List ℕ
next_cell is_first at byte = if is_first then cell at byte else 44 ∷ cell at byte

-- the cells of the bytes that are not 0, of bytes that begin at this address
abbrev pub cells : ℕ → List ℕ → List (List ℕ)
cells at [] = []
cells at (byte ∷ bytes) = if byte == 0 then cells (at + 1) bytes else cell at byte ∷ cells (at + 1) bytes

-- each cell behind a comma
abbrev pub behind_commas : List (List ℕ) → List ℕ
behind_commas cs = flat_map (λ c. 44 ∷ c) cs

-- the cells with a comma between each two, or a dash where there is none
abbrev pub joined : List (List ℕ) → List ℕ
joined [] = codes "-"
joined (c ∷ cs) = c ++ behind_commas cs

-- an image: its bytes that are not 0, from address 0 on
abbrev pub image : List ℕ → List ℕ
image bytes = joined (cells 0 bytes)

-- what an image of n bytes takes at most: 7 bytes a cell, one more from address 1,000 on, and one for a dash
abbrev pub image_room : ℕ → ℕ
image_room n = 7 * n + (n - 1000) + 1
