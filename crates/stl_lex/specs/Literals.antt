-- What a run with `#` inside says: its prefix, by a table, and the value behind it.
use Rattle.std.specs.Prelude.{ℕ, List, length, drop, slice_index, find, ◌==◌, ◌&&◌, nat_le, Option, Some, None, if◌then◌else◌}
use Rattle.stl_lex.specs.declared.fault.TokenFault.TheVariants.{BadNumber, OutOfRange}
use Rattle.stl_lex.specs.declared.piece.TokenKind.{TokenKind}
use Rattle.stl_lex.specs.declared.piece.TokenKind.TheVariants as kinds
use Rattle.stl_lex.specs.declared.piece.Form.{Form}
use Rattle.stl_lex.specs.declared.piece.Form.TheVariants.{Lexeme, Bad}
use Rattle.stl_lex.specs.declared.durations.TimeUnit.{TimeUnit}
use Rattle.stl_lex.specs.declared.literals.LiteralValue.{LiteralValue}
use Rattle.stl_lex.specs.declared.literals.LiteralValue.TheVariants as values
use Rattle.stl_lex.specs.declared.literals.Literal.{Literal}
use Rattle.stl_lex.specs.Bytes.{is_plus_or_minus, begins, letters_of}
use Rattle.stl_lex.specs.LiteralTable.{literals, time_units, timer_units}
use Rattle.stl_lex.specs.Numerals.{is_numeral, value_of, digit_count}
use Rattle.stl_lex.specs.Durations.{is_duration, milliseconds}

-- a value within its type
abbrev pub ranged : TokenKind → ℕ → ℕ → Form
ranged kind most value = if nat_le value most then Lexeme kind else Bad OutOfRange

-- a number in digits of a base, up to a greatest one
abbrev pub numeral_form : TokenKind → ℕ → ℕ → List ℕ → Form
numeral_form kind base most digits =
    if is_numeral base digits then ranged kind most (value_of base digits) else Bad BadNumber

-- a duration in these units, up to a greatest number of milliseconds
unfoldable pub duration_form : List TimeUnit → ℕ → List ℕ → Form
duration_form units most bytes =
    if is_duration units bytes then ranged kinds.Literal most (milliseconds units bytes) else Bad BadNumber

-- without the sign, where one stands there
abbrev pub unsigned : List ℕ → List ℕ
unsigned bytes = if is_plus_or_minus (slice_index bytes 0) then drop 1 bytes else bytes

-- how far from 0 a number of 32 bits may be with this sign
abbrev pub farthest : List ℕ → ℕ
farthest bytes = if slice_index bytes 0 == 45 then 2147483648 else 2147483647

-- what stands behind a prefix
abbrev pub value_form : LiteralValue → List ℕ → Form
value_form values.Integer bytes = numeral_form kinds.Literal 10 (farthest bytes) (unsigned bytes)
value_form (values.Hexadecimal most) bytes = numeral_form kinds.Literal 16 most bytes
value_form values.Counter bytes = numeral_form kinds.Literal 10 999 bytes
value_form values.Bits bytes =
    if is_numeral 2 bytes && nat_le (digit_count bytes) 32 then Lexeme kinds.Literal else Bad BadNumber
value_form values.Time bytes = duration_form time_units (farthest bytes) (unsigned bytes)
value_form values.TimerStart bytes = duration_form timer_units 9990000 bytes
value_form values.Pointer bytes = Lexeme kinds.Literal

-- the row of the table with whose prefix a run begins
unfoldable pub literal_of : List ℕ → Option Literal
literal_of run = find (λ row. begins (letters_of row.prefix) run) literals

-- what a run is by this row
abbrev pub literal_by : Option Literal → List ℕ → Form
literal_by None run = Bad BadNumber
literal_by (Some row) run = value_form row.value (drop (length (letters_of row.prefix)) run)

-- what a run with `#` inside is
abbrev pub literal_form : List ℕ → Form
literal_form run = literal_by (literal_of run) run
