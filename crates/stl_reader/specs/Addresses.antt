-- The parts of an operand.
use Rattle.std.specs.Prelude.{ℕ, List, [], ◌∷◌, ◌&&◌, min, nat_le, Bool, Result, Ok, Err, if◌then◌else◌, codes}
use Rattle.std.specs.Str.{bytes_eq}
use Rattle.stl_lex.specs.Bytes.{in_field}
use Rattle.stl_lex.specs.declared.token.Token.{Token}
use Rattle.stl_decl.specs.declared.fault.Fault.{Fault}
use Rattle.stl_decl.specs.declared.fault.FaultKind.TheVariants.{BadOperand, OutOfScope}
use Rattle.stl_decl.specs.Steps.{◌>>=◌, end_fault, fault_at, unfit, is_number_kind, is_sign, is_word, number_of}
use Rattle.stl_reader.specs.declared.forms.OperandForm.{OperandForm}
use Rattle.stl_reader.specs.declared.words.OperandWord.{OperandWord}
use Rattle.stl_reader.specs.declared.addresses.Operand.{Operand}
use Rattle.stl_reader.specs.Forms.{accepts}

-- the mnemonic behind which a list of parameters would stand
abbrev pub call : List ℕ
call = in_field 5 (codes "CALL")

-- the name of no label
abbrev pub no_name : List ℕ
no_name = 0 ∷ 0 ∷ 0 ∷ 0 ∷ []

-- a token that can't stand in an operand; the list of parameters of a CALL is left out of the language
abbrev pub refused : List ℕ → List ℕ → Token → Fault
refused text mnemonic t =
    if bytes_eq mnemonic call && is_sign text t (codes "(") then fault_at OutOfScope t else unfit text t

-- an operand of this form may stand behind the mnemonic
abbrev pub taken : List ℕ → List ℕ → OperandForm → Token → Result (Unit {0}) Fault
taken text mnemonic form t = if accepts mnemonic form then Ok tt else Err (refused text mnemonic t)

-- an operand that is none as a whole has its fault at its first token
abbrev pub judged : Bool → Token → Result (Unit {0}) Fault
judged holds t = if holds then Ok tt else Err (fault_at BadOperand t)

-- a number
abbrev pub part_number : List ℕ → List ℕ → List Token → Result (ℕ × Token × List Token) Fault
part_number text mnemonic [] = Err (end_fault text)
part_number text mnemonic (t ∷ ts) =
    if is_number_kind t.kind then Ok (min (number_of text t) 4294967295, t, ts) else Err (refused text mnemonic t)

-- this sign
abbrev pub part_sign : List ℕ → List ℕ → List ℕ → List Token → Result (Token × List Token) Fault
part_sign text mnemonic sign [] = Err (end_fault text)
part_sign text mnemonic sign (t ∷ ts) = if is_sign text t sign then Ok (t, ts) else Err (refused text mnemonic t)

-- this word
abbrev pub part_word : List ℕ → List ℕ → List ℕ → List Token → Result (Token × List Token) Fault
part_word text mnemonic word [] = Err (end_fault text)
part_word text mnemonic word (t ∷ ts) = if is_word text t word then Ok (t, ts) else Err (refused text mnemonic t)

-- the number directly behind a word of an area; a computed address is left out of the language
abbrev pub address : List ℕ → List ℕ → List Token → Result (ℕ × Token × List Token) Fault
address text mnemonic [] = part_number text mnemonic []
address text mnemonic (t ∷ ts) = if is_sign text t (codes "[") then Err (fault_at OutOfScope t) else part_number text mnemonic (t ∷ ts)

-- an operand that is a word alone
abbrev pub word_operand : OperandWord → Operand
word_operand row = record { area = row.area; bit = row.unit; db = 0; value = row.value; name = no_name }

-- byte "." bit, behind the word of an area, which is the operand's first token
unfoldable pub bit_operand : List ℕ → List ℕ → OperandWord → Token → List Token → Result (Operand × Token × List Token) Fault
bit_operand text mnemonic row first tokens = do
  byte ← address text mnemonic tokens
  dot ← part_sign text mnemonic (codes ".") byte.2
  bit ← part_number text mnemonic dot.1
  small ← judged (nat_le bit.0 7) first
  Ok (record { area = row.area; bit = bit.0; db = 0; value = byte.0; name = no_name }, bit.1, bit.2)

-- a number behind the word of an area
unfoldable pub byte_operand : List ℕ → List ℕ → OperandWord → List Token → Result (Operand × Token × List Token) Fault
byte_operand text mnemonic row tokens = do
  number ← address text mnemonic tokens
  Ok (record { area = row.area; bit = row.unit; db = 0; value = number.0; name = no_name }, number.1, number.2)
