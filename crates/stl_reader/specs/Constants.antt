-- Constants as operands, and the comparisons with 0.
use Rattle.std.specs.Prelude.{ℕ, List, [], ◌∷◌, ◌&&◌, ◌||◌, nat_lt, Bool, true, false, Option, Some, None, Result, Ok, Err, if◌then◌else◌, codes}
use Rattle.std.specs.Str.{bytes_eq}
use Rattle.instruction_set.specs.declared.operands.OperandArea.{OperandArea}
use Rattle.instruction_set.specs.declared.operands.OperandArea.TheVariants as areas
use Rattle.stl_lex.specs.declared.piece.TokenKind.{TokenKind}
use Rattle.stl_lex.specs.declared.piece.TokenKind.TheVariants as kinds
use Rattle.stl_lex.specs.declared.token.Token.{Token}
use Rattle.stl_decl.specs.declared.fault.Fault.{Fault}
use Rattle.stl_decl.specs.declared.constants.ConstantForm.{ConstantForm}
use Rattle.stl_decl.specs.declared.constants.ConstantForm.TheVariants as constants
use Rattle.stl_decl.specs.declared.constants.Constant.{Constant}
use Rattle.stl_decl.specs.Steps.{◌>>=◌, spelling, end_fault, is_number_kind, is_sign}
use Rattle.stl_decl.specs.Constants.{value_at}
use Rattle.stl_reader.specs.declared.forms.OperandForm.{OperandForm}
use Rattle.stl_reader.specs.declared.forms.OperandForm.TheVariants as forms
use Rattle.stl_reader.specs.declared.words.StatusSign.{StatusSign}
use Rattle.stl_reader.specs.declared.addresses.Operand.{Operand}
use Rattle.stl_reader.specs.Words.{status_sign}
use Rattle.stl_reader.specs.Addresses.{no_name, refused, taken}

abbrev pub is_real_kind : TokenKind → Bool
is_real_kind kinds.RealPart = true
is_real_kind _ = false

-- the sign of a number
abbrev pub is_plus_or_minus : List ℕ → Token → Bool
is_plus_or_minus text t = is_sign text t (codes "+") || is_sign text t (codes "-")

-- a number or the part of a real number comes next
abbrev pub is_figure_next : List Token → Bool
is_figure_next [] = false
is_figure_next (t ∷ ts) = is_number_kind t.kind || is_real_kind t.kind

-- a point and figures
abbrev pub is_fraction : List ℕ → List Token → Bool
is_fraction text [] = false
is_fraction text (t ∷ ts) = is_sign text t (codes ".") && is_figure_next ts

-- a real constant without a sign: n . n, n . n E n, or n E n
abbrev pub is_unsigned_real : List ℕ → List Token → Bool
is_unsigned_real text [] = false
is_unsigned_real text (t ∷ ts) = is_real_kind t.kind || (is_number_kind t.kind && is_fraction text ts)

-- a real constant
abbrev pub is_real : List ℕ → List Token → Bool
is_real text [] = is_unsigned_real text []
is_real text (t ∷ ts) = if is_plus_or_minus text t then is_unsigned_real text ts else is_unsigned_real text (t ∷ ts)

-- the form of operand that a constant is
abbrev pub form_of : ConstantForm → OperandForm
form_of constants.Integer = forms.Number
form_of constants.LongInteger = forms.LongInteger
form_of constants.Word = forms.WordPattern
form_of constants.DoubleWord = forms.DoubleWordPattern
form_of _ = forms.OtherLiteral

-- L#, DW#16#, T#, more than 16 binary digits and more than two characters are constants of 32 bits
abbrev pub area_of : ConstantForm → OperandArea
area_of constants.LongInteger = areas.DoubleWord
area_of constants.DoubleWord = areas.DoubleWord
area_of constants.Time = areas.DoubleWord
area_of (constants.Bits digits) = if nat_lt 16 digits then areas.DoubleWord else areas.Word
area_of (constants.Characters count) = if nat_lt 2 count then areas.DoubleWord else areas.Word
area_of _ = areas.Word

abbrev pub constant_operand : Constant → Operand
constant_operand c = record { area = area_of c.form; bit = 0; db = 0; value = c.value; name = no_name }

-- a number from -32,768 to 32,767
unfoldable pub number_operand : List ℕ → List Token → Result (Operand × Token × List Token) Fault
number_operand text tokens = do
  value ← value_at text tokens
  Ok (constant_operand value.0.constant, value.0.last, value.1)

-- a number without a sign
unfoldable pub unsigned_operand : List ℕ → List ℕ → Token → List Token → Result (Operand × Token × List Token) Fault
unsigned_operand text mnemonic first tokens = do
  number ← taken text mnemonic forms.Number first
  number_operand text tokens

-- a literal, or characters
abbrev pub single_operand : Option Constant → List ℕ → List ℕ → Token → List Token → Result (Operand × Token × List Token) Fault
single_operand None text mnemonic first rest = Err (refused text mnemonic first)
single_operand (Some c) text mnemonic first rest = do
  constant ← taken text mnemonic (form_of c.form) first
  Ok (constant_operand c, first, rest)

-- the 0 that is compared with
abbrev pub is_zero : List ℕ → Token → Bool
is_zero text t = is_number_kind t.kind && bytes_eq (spelling text t) (codes "0")

abbrev pub is_zero_next : List ℕ → List Token → Bool
is_zero_next text [] = false
is_zero_next text (t ∷ ts) = is_zero text t

abbrev pub zero_at : List ℕ → List ℕ → List Token → Result (Token × List Token) Fault
zero_at text mnemonic [] = Err (end_fault text)
zero_at text mnemonic (t ∷ ts) = if is_zero text t then Ok (t, ts) else Err (refused text mnemonic t)

-- a comparison with 0: its sign stands first
unfoldable pub status_operand : List ℕ → List ℕ → StatusSign → Token → List Token → Result (Operand × Token × List Token) Fault
status_operand text mnemonic row first tokens = do
  status ← taken text mnemonic forms.Status first
  zero ← zero_at text mnemonic tokens
  Ok (record { area = areas.Status; bit = 0; db = 0; value = row.value; name = no_name }, zero.0, zero.1)

-- a number with a sign
unfoldable pub signed_operand : List ℕ → List ℕ → Token → List Token → Result (Operand × Token × List Token) Fault
signed_operand text mnemonic first tokens =
    if is_plus_or_minus text first then (taken text mnemonic forms.SignedNumber first >>= λ sign. number_operand text tokens)
    else Err (refused text mnemonic first)

abbrev pub sign_by : Option StatusSign → List ℕ → List ℕ → Token → List Token → List Token → Result (Operand × Token × List Token) Fault
sign_by (Some row) text mnemonic first rest tokens = status_operand text mnemonic row first rest
sign_by None text mnemonic first rest tokens = signed_operand text mnemonic first tokens

-- an operand that begins with a sign
abbrev pub sign_operand : List ℕ → List ℕ → Token → List Token → List Token → Result (Operand × Token × List Token) Fault
sign_operand text mnemonic first rest tokens = sign_by (status_sign (spelling text first)) text mnemonic first rest tokens
