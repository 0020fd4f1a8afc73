-- The types of declared names, and where values of them lie.
use Rattle.std.specs.Prelude.{ℕ, List, ◌+◌, ◌-◌, ◌*◌, ◌/◌, ℤ, pos, negsuc, neg_ℤ, nat_le, Bool, Option, if◌then◌else◌}
use Rattle.std.specs.List.{find}
use Rattle.stl_lex.specs.Bytes.{spells, letters_of}
use Rattle.stl_decl.specs.declared.steps.SignedNumber.{SignedNumber}
use Rattle.stl_decl.specs.declared.types.SimpleType.{SimpleType}
use Rattle.stl_decl.specs.declared.types.SimpleType.TheVariants as types
use Rattle.stl_decl.specs.declared.types.Shape.{Shape}
use Rattle.stl_decl.specs.Places.{Place}
use Rattle.stl_decl.specs.declared.types.TypeRow.{TypeRow}
use Rattle.stl_decl.specs.TypeWords.{type_words}

-- how many bits a value takes
abbrev pub bits_of : SimpleType → ℕ
bits_of types.Bool = 1
bits_of types.Byte = 8
bits_of types.Char = 8
bits_of types.Word = 16
bits_of types.Int = 16
bits_of types.S5Time = 16
bits_of types.Date = 16
bits_of types.DWord = 32
bits_of types.DInt = 32
bits_of types.Time = 32
bits_of types.TimeOfDay = 32
bits_of types.DateAndTime = 64

-- the next multiple of so many bits
abbrev pub round_up : ℕ → ℕ → ℕ
round_up unit bit = (bit + unit - 1) / unit * unit

-- BOOLs follow each other, BYTE and CHAR begin at the next byte, all wider types at an even byte
abbrev pub first_simple : SimpleType → ℕ → ℕ
first_simple types.Bool end = end
first_simple types.Byte end = round_up 8 end
first_simple types.Char end = round_up 8 end
first_simple _ end = round_up 16 end

-- where a value begins behind the bits that are taken: all arrays begin at an even byte
abbrev pub first_bit : Shape → ℕ → ℕ
first_bit shape end = if shape.is_array then round_up 16 end else first_simple shape.simple end

-- the bit behind a value: what follows an array begins at an even byte
abbrev pub end_bit : Shape → ℕ → ℕ
end_bit shape first =
    let end = first + shape.count * bits_of shape.simple in
    if shape.is_array then round_up 16 end else end

-- the bit that element k begins at
abbrev pub element_bit : Place → ℕ → ℕ
element_bit v k = v.first_bit + k * bits_of v.shape.simple

-- the row of the table that a word has
unfoldable pub type_row : List ℕ → Option TypeRow
type_row word = find (λ row. spells (letters_of row.spelling) word) type_words

-- a number from -32,768 to 32,767
abbrev pub is_int : SignedNumber → Bool
is_int n = if n.negative then nat_le n.magnitude 32768 else nat_le n.magnitude 32767

abbrev pub int_value : SignedNumber → ℤ
int_value n = if n.negative then neg_ℤ (pos n.magnitude) else pos n.magnitude

-- how many INT stand below this one
abbrev pub rank : ℤ → ℕ
rank (pos n) = 32768 + n
rank (negsuc n) = 32767 - n
