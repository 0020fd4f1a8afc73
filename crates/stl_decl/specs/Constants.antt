-- Constants: numbers, literals, characters, TRUE and FALSE, and what is stored for them.
use Rattle.std.specs.Prelude.{ℕ, List, [], ◌∷◌, length, take, drop, slice_index, ◌==◌, ◌||◌, ◌+◌, ◌-◌, ◌*◌, ◌/◌, ◌%◌, ◌^◌, min, nat_le, Bool, true, false, Option, Some, None, Result, Ok, Err, if◌then◌else◌, codes}
use Rattle.stl_lex.specs.Bytes.{spells, letters_of}
use Rattle.stl_lex.specs.Numerals.{value_of, digit_count}
use Rattle.stl_lex.specs.Durations.{milliseconds}
use Rattle.stl_lex.specs.Literals.{unsigned, literal_of}
use Rattle.stl_lex.specs.LiteralTable.{time_units, timer_units}
use Rattle.stl_lex.specs.declared.durations.TimeUnit.{TimeUnit}
use Rattle.stl_lex.specs.declared.literals.LiteralValue.{LiteralValue}
use Rattle.stl_lex.specs.declared.literals.LiteralValue.TheVariants as values
use Rattle.stl_lex.specs.declared.literals.Literal.{Literal}
use Rattle.stl_lex.specs.declared.piece.TokenKind.{TokenKind}
use Rattle.stl_lex.specs.declared.piece.TokenKind.TheVariants as kinds
use Rattle.stl_lex.specs.declared.token.Token.{Token}
use Rattle.s5_time.specs.Bcd.{bcd_of}
use Rattle.s5_time.specs.Duration.{unit_millis, word_of}
use Rattle.stl_decl.specs.Steps.{◌>>=◌, spelling, end_fault, fault_at, unfit, is_sign, is_number_kind, integer_at}
use Rattle.stl_decl.specs.Types.{is_int}
use Rattle.stl_decl.specs.declared.fault.Fault.{Fault}
use Rattle.stl_decl.specs.declared.fault.FaultKind.TheVariants.{BadOperand}
use Rattle.stl_decl.specs.declared.steps.SignedNumber.{SignedNumber}
use Rattle.stl_decl.specs.declared.types.SimpleType.{SimpleType}
use Rattle.stl_decl.specs.declared.types.SimpleType.TheVariants as types
use Rattle.stl_decl.specs.declared.constants.ConstantForm.{ConstantForm}
use Rattle.stl_decl.specs.declared.constants.ConstantForm.TheVariants as forms
use Rattle.stl_decl.specs.declared.constants.Constant.{Constant}
use Rattle.stl_decl.specs.declared.constants.Value.{Value}

-- what is stored for a number: its value, or below 0 what is missing of the modulus
abbrev pub stored : Bool → ℕ → ℕ → ℕ
stored negative modulus n = if negative then (modulus - n % modulus) % modulus else n % modulus

-- the smallest base that has at most 999 units of so many milliseconds
abbrev pub smallest_base : ℕ → ℕ
smallest_base ms =
    if nat_le (ms / 10) 999 then 0
    else (if nat_le (ms / 100) 999 then 1
    else (if nat_le (ms / 1000) 999 then 2 else 3))

-- the word of a timer's start: the smallest base, and its units, cut
abbrev pub start_word : ℕ → ℕ
start_word ms = word_of (record { base = smallest_base ms; units = ms / unit_millis (smallest_base ms) })

-- at most 9,990,000 milliseconds
unfoldable pub timer_start : ℕ → ℕ
timer_start ms = start_word (min ms 9990000)

abbrev pub is_negative : List ℕ → Bool
is_negative bytes = slice_index bytes 0 == 45

-- one to four bytes as digits of base 256
abbrev pub characters_value : List ℕ → ℕ
characters_value (a ∷ []) = a
characters_value (a ∷ b ∷ []) = a * 256 + b
characters_value (a ∷ b ∷ c ∷ []) = (a * 256 + b) * 256 + c
characters_value (a ∷ b ∷ c ∷ d ∷ []) = ((a * 256 + b) * 256 + c) * 256 + d
characters_value _ = 0

abbrev pub inside_quotes : List ℕ → List ℕ
inside_quotes bytes = let inside = drop 1 bytes in take (length inside - 1) inside

-- one to four characters
abbrev pub characters : List ℕ → Constant
characters bytes = record {
  form = forms.Characters (min (length (inside_quotes bytes)) 255);
  value = characters_value (inside_quotes bytes);
}

-- the form of a hexadecimal literal, by the greatest one
abbrev pub hexadecimal : ℕ → ConstantForm
hexadecimal most = if nat_le most 255 then forms.Byte else (if nat_le most 65535 then forms.Word else forms.DoubleWord)

-- the value of digits, as a number of 32 bits
abbrev pub unsigned_value : ℕ → List ℕ → ℕ
unsigned_value base digits = stored false (2 ^ 32) (min (value_of base digits) (2 ^ 32))

-- milliseconds in these units with their sign, as a number of 32 bits
unfoldable pub time_value : List TimeUnit → List ℕ → ℕ
time_value units bytes = stored (is_negative bytes) (2 ^ 32) (min (milliseconds units (unsigned bytes)) (2 ^ 32))

-- what is written behind a literal's prefix
abbrev pub literal_by : LiteralValue → List ℕ → Option Constant
literal_by values.Integer bytes =
    Some (record { form = forms.LongInteger; value = stored (is_negative bytes) (2 ^ 32) (min (value_of 10 (unsigned bytes)) (2 ^ 32)) })
literal_by (values.Hexadecimal most) bytes = Some (record { form = hexadecimal most; value = unsigned_value 16 bytes })
literal_by values.Counter bytes = Some (record { form = forms.Counter; value = bcd_of (min (min (value_of 10 bytes) (2 ^ 32)) 999) })
literal_by values.Bits bytes = Some (record { form = forms.Bits (min (digit_count bytes) 255); value = unsigned_value 2 bytes })
literal_by values.Time bytes = Some (record { form = forms.Time; value = time_value time_units bytes })
literal_by values.TimerStart bytes =
    Some (record { form = forms.TimerStart; value = timer_start (min (milliseconds timer_units bytes) (2 ^ 32)) })
literal_by values.Pointer bytes = None

abbrev pub literal_at : Option Literal → List ℕ → Option Constant
literal_at None run = None
literal_at (Some row) run = literal_by row.value (drop (length (letters_of row.prefix)) run)

-- the constant that a literal is; none of a pointer
abbrev pub literal_constant : List ℕ → Option Constant
literal_constant run = literal_at (literal_of run) run

-- TRUE and FALSE
abbrev pub word_constant : List ℕ → Option Constant
word_constant word =
    if spells (codes "TRUE") word then Some (record { form = forms.Boolean; value = 1 })
    else (if spells (codes "FALSE") word then Some (record { form = forms.Boolean; value = 0 }) else None)

abbrev pub constant_by : TokenKind → List ℕ → Option Constant
constant_by kinds.Literal word = literal_constant word
constant_by kinds.Characters word = Some (characters word)
constant_by kinds.Word word = word_constant word
constant_by _ word = None

-- the constant that a single token is, but for numbers
unfoldable pub constant_of : List ℕ → Token → Option Constant
constant_of text t = constant_by t.kind (spelling text t)

-- a number begins with this token
abbrev pub begins_integer : List ℕ → Token → Bool
begins_integer text t = is_number_kind t.kind || is_sign text t (codes "-") || is_sign text t (codes "+")

-- the constant of an INT
abbrev pub integer_constant : SignedNumber → Constant
integer_constant n = record { form = forms.Integer; value = stored n.negative 65536 n.magnitude }

-- the number is an INT, or a bad operand at its first token
abbrev pub integer_value : SignedNumber → List Token → Result (Value × List Token) Fault
integer_value n rest =
    if is_int n then Ok (record { constant = integer_constant n; first = n.first; last = n.last }, rest)
    else Err (fault_at BadOperand n.first)

-- a number from -32,768 to 32,767
unfoldable pub integer_value_at : List ℕ → List Token → Result (Value × List Token) Fault
integer_value_at text tokens = do
  number ← integer_at text tokens
  integer_value number.0 number.1

abbrev pub single_value : Option Constant → List ℕ → Token → List Token → Result (Value × List Token) Fault
single_value None text t ts = Err (unfit text t)
single_value (Some c) text t ts = Ok (record { constant = c; first = t; last = t }, ts)

-- a constant
abbrev pub value_at : List ℕ → List Token → Result (Value × List Token) Fault
value_at text [] = Err (end_fault text)
value_at text (t ∷ ts) = if begins_integer text t then integer_value_at text (t ∷ ts) else single_value (constant_of text t) text t ts

-- a constant of this form is a value of the type; DATE, TIME_OF_DAY and DATE_AND_TIME have no values
abbrev pub suits : SimpleType → ConstantForm → Bool
suits types.Bool forms.Boolean = true
suits types.Byte forms.Byte = true
suits types.Byte (forms.Bits digits) = nat_le digits 8
suits types.Char (forms.Characters count) = count == 1
suits types.Word forms.Word = true
suits types.Word forms.Counter = true
suits types.Word (forms.Bits digits) = nat_le digits 16
suits types.Int forms.Integer = true
suits types.S5Time forms.TimerStart = true
suits types.DWord forms.DoubleWord = true
suits types.DWord (forms.Bits digits) = true
suits types.DInt forms.LongInteger = true
suits types.Time forms.Time = true
suits _ _ = false
