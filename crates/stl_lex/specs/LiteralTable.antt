-- The literals by their prefixes, and the units of a duration, as the manual lists them.
use Rattle.std.specs.Prelude.{ℕ, List, [], ◌∷◌, codes}
use Prim.Native.String.{String}
use Rattle.stl_lex.specs.declared.durations.TimeUnit.{TimeUnit}
use Rattle.stl_lex.specs.declared.literals.LiteralValue.{LiteralValue}
use Rattle.stl_lex.specs.declared.literals.LiteralValue.TheVariants.{Integer, Hexadecimal, Counter, Bits, Time, TimerStart, Pointer}
use Rattle.stl_lex.specs.declared.literals.Literal.{Literal}
use Rattle.stl_lex.specs.Bytes.{in_field}

-- a prefix, and what stands behind it
abbrev pub literal : String → LiteralValue → Literal
literal prefix value = record { prefix = in_field 9 (codes prefix); value = value }

-- each prefix of a hexadecimal literal has a long form; the number is the greatest value
abbrev pub literals : List Literal
literals =
    literal "L#" Integer
    ∷ literal "B#16#" (Hexadecimal 255)
    ∷ literal "BYTE#16#" (Hexadecimal 255)
    ∷ literal "W#16#" (Hexadecimal 65535)
    ∷ literal "WORD#16#" (Hexadecimal 65535)
    ∷ literal "DW#16#" (Hexadecimal 4294967295)
    ∷ literal "DWORD#16#" (Hexadecimal 4294967295)
    ∷ literal "2#" Bits
    ∷ literal "C#" Counter
    ∷ literal "S5T#" TimerStart
    ∷ literal "S5TIME#" TimerStart
    ∷ literal "T#" Time
    ∷ literal "TIME#" Time
    ∷ literal "P#" Pointer
    ∷ []

-- a unit, and how many milliseconds it has
abbrev pub unit : String → ℕ → TimeUnit
unit letters milliseconds = record { letters = in_field 2 (codes letters); milliseconds = milliseconds }

-- in the order in which the parts of a duration stand
abbrev pub time_units : List TimeUnit
time_units = unit "D" 86400000 ∷ unit "H" 3600000 ∷ unit "M" 60000 ∷ unit "S" 1000 ∷ unit "MS" 1 ∷ []

-- those of a timer's start
abbrev pub timer_units : List TimeUnit
timer_units = unit "H" 3600000 ∷ unit "M" 60000 ∷ unit "S" 1000 ∷ unit "MS" 1 ∷ []
