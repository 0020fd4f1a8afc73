-- How literals are spelled: a prefix, and a value behind it.
use Rattle.std.specs.Prelude.{◌≡◌, ◌^◌, ℕ, List, [], ◌∷◌, ◌++◌, min, nat_le, Bool, true, false, Some, Ok, if◌then◌else◌}
use Rattle.stl_lex.specs.Bytes.{spells, letters_of}
use Rattle.stl_lex.specs.Numerals.{digit_count}
use Rattle.stl_lex.specs.Durations.{is_duration, milliseconds}
use Rattle.stl_lex.specs.Literals.{literal_form}
use Rattle.stl_lex.specs.LiteralTable.{literals, time_units, timer_units}
use Rattle.stl_lex.specs.declared.piece.TokenKind.TheVariants as kinds
use Rattle.stl_lex.specs.declared.piece.Form.TheVariants.{Lexeme}
use Rattle.stl_lex.specs.declared.literals.LiteralValue.{LiteralValue}
use Rattle.stl_lex.specs.declared.literals.LiteralValue.TheVariants as values
use Rattle.stl_lex.specs.declared.literals.Literal.{Literal}
use Rattle.stl_lex.specs.declared.token.Token.{Token}
use Rattle.stl_lex.specs.Tokens.{text_tokens}
use Rattle.s5_time.specs.Bcd.{bcd_of}
use Rattle.stl_decl.specs.declared.constants.Constant.{Constant}
use Rattle.stl_decl.specs.declared.constants.ConstantForm.TheVariants as forms
use Rattle.stl_decl.specs.Steps.{spelling}
use Rattle.stl_decl.specs.Constants.{stored, hexadecimal, timer_start, literal_constant, constant_of}
use Rattle.reader_laws.specs.Tokens.{IsOneOf}
use Rattle.reader_laws.specs.Numerals.{IsNumeral}

-- a sign or none: `+` and `-` as bytes
pub data IsSignOf : Bool → List ℕ → Type 0 where
  unsigned : IsSignOf false []
  plus : IsSignOf false (43 ∷ [])
  minus : IsSignOf true (45 ∷ [])

-- no further from 0 than a number of 32 bits with this sign
abbrev pub is_within : Bool → ℕ → Bool
is_within negative n = nat_le n (if negative then 2147483648 else 2147483647)

-- What stands behind a prefix, and the constant that it is. Bits are as many digits as are written, 32 at most, and so are
-- below 2 ^ 32.
pub data IsValue : LiteralValue → Constant → List ℕ → Type 0 where
  of_integer : (negative : Bool) (n : ℕ) (sign digits : List ℕ) → IsSignOf negative sign → IsNumeral 10 n digits → is_within negative n ≡ true → IsValue values.Integer (record { form = forms.LongInteger; value = stored negative (2 ^ 32) n }) (sign ++ digits)
  of_hexadecimal : (most n : ℕ) (digits : List ℕ) → IsNumeral 16 n digits → nat_le n most ≡ true → IsValue (values.Hexadecimal most) (record { form = hexadecimal most; value = stored false (2 ^ 32) n }) digits
  of_counter : (n : ℕ) (digits : List ℕ) → IsNumeral 10 n digits → nat_le n 999 ≡ true → IsValue values.Counter (record { form = forms.Counter; value = bcd_of n }) digits
  of_bits : (n : ℕ) (digits : List ℕ) → IsNumeral 2 n digits → nat_le (digit_count digits) 32 ≡ true → IsValue values.Bits (record { form = forms.Bits (digit_count digits); value = stored false (2 ^ 32) (min n (2 ^ 32)) }) digits
  of_time : (negative : Bool) (sign parts : List ℕ) → IsSignOf negative sign → is_duration time_units parts ≡ true → is_within negative (milliseconds time_units parts) ≡ true → IsValue values.Time (record { form = forms.Time; value = stored negative (2 ^ 32) (milliseconds time_units parts) }) (sign ++ parts)
  of_timer_start : (parts : List ℕ) → is_duration timer_units parts ≡ true → nat_le (milliseconds timer_units parts) 9990000 ≡ true → IsValue values.TimerStart (record { form = forms.TimerStart; value = timer_start (milliseconds timer_units parts) }) parts

-- the bytes spell the constant: the letters of a prefix of the table, large or small, and a value of its kind
pub record IsLiteral (c : Constant) (run : List ℕ) : Type 0 where
  pub row : Literal
  pub listed : IsOneOf row literals
  pub front : List ℕ
  pub bytes : List ℕ
  pub cut : run ≡ front ++ bytes
  pub letters : spells (letters_of row.prefix) front ≡ true
  pub value : IsValue row.value c bytes

-- the constant that a run is read as, where it is a literal, is spelled so
abbrev pub LiteralValuesReadAreSpelled : Type 0
LiteralValuesReadAreSpelled = (run : List ℕ) (c : Constant) → literal_form run ≡ Lexeme kinds.Literal → literal_constant run ≡ Some c → IsLiteral c run

-- what is spelled as a literal is one, and is read as its constant and as no other
abbrev pub LiteralValuesSpelledAreRead : Type 0
LiteralValuesSpelledAreRead = (run : List ℕ) (c : Constant) → IsLiteral c run → (literal_form run ≡ Lexeme kinds.Literal) × (literal_constant run ≡ Some c)

-- the constant that a literal among the tokens of a text is read as is spelled by its bytes
abbrev pub LiteralsOfTextsAreSpelled : Type 0
LiteralsOfTextsAreSpelled =
    (text : List ℕ) (tokens : List Token) (t : Token) (c : Constant)
    → text_tokens text ≡ Ok tokens → IsOneOf t tokens → t.kind ≡ kinds.Literal → constant_of text t ≡ Some c → IsLiteral c (spelling text t)
