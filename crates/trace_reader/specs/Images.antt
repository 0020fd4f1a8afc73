-- Images: how they are written.
use Rattle.std.specs.Prelude.{ℕ, zero, suc, ◌+◌, ◌==◌, ◌&&◌, ◌||◌, not, Bool, true, List, [], ◌∷◌, ◌++◌, Option, Some, None, if◌then◌else◌, codes}
use Rattle.std.specs.Option.{option_map}
use Rattle.std.specs.Fmt.{decimal}
use Rattle.trace_reader.specs.Fields.{◌>>=◌, hex_byte, after, byte_at, number_at}

-- an address and the byte there, as `12:0F`
abbrev pub cell : ℕ → ℕ → List ℕ
cell at byte = decimal at ++ 58 ∷ hex_byte byte

-- the cell of a byte, after a comma where it is not the first; a byte that is 0 has none
abbrev pub cell_text : Bool → ℕ → ℕ → List ℕ
cell_text is_first at byte = if byte == 0 then [] else if is_first then cell at byte else 44 ∷ cell at byte

-- the cells of bytes that begin at this address
abbrev pub cells_text : Bool → ℕ → List ℕ → List ℕ
cells_text is_first at [] = []
cells_text is_first at (byte ∷ bytes) = cell_text is_first at byte ++ cells_text (is_first && byte == 0) (at + 1) bytes

-- all bytes are 0
abbrev pub is_dark : List ℕ → Bool
is_dark [] = true
is_dark (byte ∷ bytes) = byte == 0 && is_dark bytes

-- an image: its bytes that are not 0 with a comma between each two, or a dash where there is none
abbrev pub image : List ℕ → List ℕ
image bytes = if is_dark bytes then codes "-" else cells_text true 0 bytes

-- ---- reading

-- the byte of the cell of this address, where that is the next cell
unfoldable pub cell_at : Bool → ℕ → List ℕ → Option (ℕ × List ℕ)
cell_at is_first at text = do
  begin ← if is_first then Some text else after (codes ",") text
  address ← number_at 65535 begin
  rest ← after (codes ":") address.1
  byte ← byte_at rest
  if not (address.0 == at) || byte.0 == 0 then None else Some byte

abbrev pub byte_or_dark : List ℕ → Option (ℕ × List ℕ) → ℕ × List ℕ
byte_or_dark text (Some found) = found
byte_or_dark text None = (0, text)

-- the byte of this address, 0 where the next cell is another's
unfoldable pub byte_of : Bool → ℕ → List ℕ → ℕ × List ℕ
byte_of is_first at text = byte_or_dark text (cell_at is_first at text)

-- the bytes of this number of addresses from this one on
unfoldable pub cells_from : Bool → ℕ → ℕ → List ℕ → List ℕ × List ℕ
cells_from is_first at zero text = ([], text)
cells_from is_first at (suc count) text =
    let byte = byte_of is_first at text in
    let later = cells_from (is_first && byte.0 == 0) (at + 1) count byte.1 in
    (byte.0 ∷ later.0, later.1)

-- the bytes of an image, after the dash where all are 0
abbrev pub lit_or_dash : List ℕ × List ℕ → Option (List ℕ × List ℕ)
lit_or_dash cells = if is_dark cells.0 then option_map (λ rest. (cells.0, rest)) (after (codes "-") cells.1) else Some cells

-- an image of this number of bytes
unfoldable pub image_at : ℕ → List ℕ → Option (List ℕ × List ℕ)
image_at count text = lit_or_dash (cells_from true 0 count text)
