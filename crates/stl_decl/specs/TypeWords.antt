-- The words that have a meaning in a type's place, by groups.
use Rattle.std.specs.Prelude.{List, [], ◌∷◌, ◌++◌, codes}
use Prim.Native.String.{String}
use Rattle.stl_lex.specs.Bytes.{in_field}
use Rattle.stl_decl.specs.declared.fault.FaultKind.{FaultKind}
use Rattle.stl_decl.specs.declared.fault.FaultKind.TheVariants.{BadOperand, RealType, OutOfScope}
use Rattle.stl_decl.specs.declared.types.SimpleType.{SimpleType}
use Rattle.stl_decl.specs.declared.types.SimpleType.TheVariants as types
use Rattle.stl_decl.specs.declared.types.Meaning.TheVariants.{Known, Refused}
use Rattle.stl_decl.specs.declared.types.TypeRow.{TypeRow}

abbrev pub names : String → SimpleType → TypeRow
names word type = record { spelling = in_field 13 (codes word); meaning = Known type }

abbrev pub is_refused : String → FaultKind → TypeRow
is_refused word kind = record { spelling = in_field 13 (codes word); meaning = Refused kind }

-- the types that the manual lists
abbrev pub known_types : List TypeRow
known_types =
    names "BOOL" types.Bool
    ∷ names "BYTE" types.Byte
    ∷ names "CHAR" types.Char
    ∷ names "WORD" types.Word
    ∷ names "INT" types.Int
    ∷ names "S5TIME" types.S5Time
    ∷ names "DATE" types.Date
    ∷ names "DWORD" types.DWord
    ∷ names "DINT" types.DInt
    ∷ names "TIME" types.Time
    ∷ names "TIME_OF_DAY" types.TimeOfDay
    ∷ names "DATE_AND_TIME" types.DateAndTime
    ∷ []

-- an array has no arrays as its elements; the others are types that the language leaves out
abbrev pub refused_types : List TypeRow
refused_types =
    is_refused "ARRAY" BadOperand
    ∷ is_refused "REAL" RealType
    ∷ is_refused "STRING" OutOfScope
    ∷ is_refused "STRUCT" OutOfScope
    ∷ is_refused "UDT" OutOfScope
    ∷ []

abbrev pub type_words : List TypeRow
type_words = known_types ++ refused_types
