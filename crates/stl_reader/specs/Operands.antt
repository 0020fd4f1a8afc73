-- Operands that begin with a word: areas, blocks, status operands and labels.
use Rattle.std.specs.Prelude.{ℕ, List, [], ◌∷◌, length, drop, ◌==◌, ◌&&◌, ◌||◌, not, ◌^◌, min, Bool, true, false, Option, Some, None, Result, Ok, Err, if◌then◌else◌, codes}
use Rattle.std.specs.List.{list_all}
use Rattle.std.specs.Char.{is_ascii_digit, to_ascii_uppercase}
use Rattle.instruction_set.specs.declared.operands.OperandArea.{OperandArea}
use Rattle.instruction_set.specs.declared.operands.OperandArea.TheVariants as areas
use Rattle.stl_lex.specs.Bytes.{begins}
use Rattle.stl_lex.specs.Numerals.{value_of}
use Rattle.stl_lex.specs.declared.token.Token.{Token}
use Rattle.stl_decl.specs.declared.fault.Fault.{Fault}
use Rattle.stl_decl.specs.declared.fault.FaultKind.TheVariants.{BadOperand, OutOfScope}
use Rattle.stl_decl.specs.Steps.{◌>>=◌, spelling, end_fault, fault_at, is_word_kind, is_word}
use Rattle.stl_reader.specs.declared.forms.OperandForm.{OperandForm}
use Rattle.stl_reader.specs.declared.forms.OperandForm.TheVariants as forms
use Rattle.stl_reader.specs.declared.words.OperandWord.{OperandWord}
use Rattle.stl_reader.specs.declared.addresses.Operand.{Operand}
use Rattle.stl_reader.specs.Forms.{accepts}
use Rattle.stl_reader.specs.Words.{operand_word}
use Rattle.s7_base.specs.Operands.{is_data_number}
use Rattle.stl_reader.specs.Addresses.{no_name, refused, taken, judged, part_sign, part_word, address, word_operand, bit_operand, byte_operand}

-- what stands behind a word of the table, by its form
abbrev pub plain_operand : OperandForm → List ℕ → List ℕ → OperandWord → Token → List Token → Result (Operand × Token × List Token) Fault
plain_operand forms.Bit text mnemonic row first rest = bit_operand text mnemonic row first rest
plain_operand forms.Status text mnemonic row first rest = Ok (word_operand row, first, rest)
plain_operand forms.StatusWord text mnemonic row first rest = Ok (word_operand row, first, rest)
plain_operand forms.DataRegister text mnemonic row first rest = Ok (word_operand row, first, rest)
plain_operand _ text mnemonic row first rest = byte_operand text mnemonic row rest

-- n "," "DB" m, behind FB
unfoldable pub instance_operand : List ℕ → List ℕ → OperandWord → Token → List Token → Result (Operand × Token × List Token) Fault
instance_operand text mnemonic row first tokens = do
  number ← address text mnemonic tokens
  comma ← part_sign text mnemonic (codes ",") number.2
  db ← part_word text mnemonic (codes "DB") comma.1
  data_block ← address text mnemonic db.1
  known ← judged (is_data_number data_block.0) first
  Ok (record { area = row.area; bit = row.unit; db = data_block.0; value = number.0; name = no_name }, data_block.1, data_block.2)

-- the language has the system functions 43 and 46, behind CALL; all others are left out
abbrev pub system_judged : List ℕ → ℕ → Token → Result (Unit {0}) Fault
system_judged mnemonic number first =
    if not (number == 43) && not (number == 46) then Err (fault_at OutOfScope first)
    else judged (accepts mnemonic forms.SystemFunction) first

-- SFC n, behind the mnemonics that call
unfoldable pub system_operand : List ℕ → List ℕ → OperandWord → Token → List Token → Result (Operand × Token × List Token) Fault
system_operand text mnemonic row first tokens = do
  calls ← taken text mnemonic forms.Function first
  operand ← byte_operand text mnemonic row tokens
  known ← system_judged mnemonic operand.0.value first
  Ok operand

abbrev pub taken_operand : List ℕ → List ℕ → OperandWord → Token → List Token → Result (Operand × Token × List Token) Fault
taken_operand text mnemonic row first rest = do
  form ← taken text mnemonic row.form first
  plain_operand row.form text mnemonic row first rest

-- an operand that begins with a word of the table
abbrev pub row_operand : OperandForm → List ℕ → List ℕ → OperandWord → Token → List Token → Result (Operand × Token × List Token) Fault
row_operand forms.SystemFunction text mnemonic row first rest = system_operand text mnemonic row first rest
row_operand forms.FunctionBlock text mnemonic row first rest =
    if accepts mnemonic forms.FunctionBlockWithData then instance_operand text mnemonic row first rest
    else taken_operand text mnemonic row first rest
row_operand _ text mnemonic row first rest = taken_operand text mnemonic row first rest

abbrev pub is_digits : List ℕ → Bool
is_digits word = not (length word == 0) && list_all is_ascii_digit word

-- DB and digits: the data block of this number
abbrev pub data_number : List ℕ → Option ℕ
data_number word =
    if begins (codes "DB") word && is_digits (drop 2 word) then Some (min (min (value_of 10 (drop 2 word)) (2 ^ 32)) 4294967295)
    else None

abbrev pub is_data_area : OperandArea → Bool
is_data_area areas.Data = true
is_data_area _ = false

abbrev pub is_memory_form : OperandForm → Bool
is_memory_form forms.Bit = true
is_memory_form forms.Value = true
is_memory_form _ = false

-- DBX, DBB, DBW, DBD
abbrev pub is_data_word : OperandWord → Bool
is_data_word row = is_data_area row.area && is_memory_form row.form

abbrev pub data_word_by : Option OperandWord → List ℕ → List ℕ → Token → List Token → Result (OperandWord × Token × List Token) Fault
data_word_by None text mnemonic t ts = Err (refused text mnemonic t)
data_word_by (Some row) text mnemonic t ts =
    if is_data_word row && accepts mnemonic row.form then Ok (row, t, ts) else Err (refused text mnemonic t)

-- one of these, which may stand behind the mnemonic
abbrev pub data_word : List ℕ → List ℕ → List Token → Result (OperandWord × Token × List Token) Fault
data_word text mnemonic [] = Err (end_fault text)
data_word text mnemonic (t ∷ ts) =
    if is_word_kind t.kind then data_word_by (operand_word (spelling text t)) text mnemonic t ts else Err (refused text mnemonic t)

-- an address of memory may stand behind the mnemonic
abbrev pub takes_memory : List ℕ → Bool
takes_memory mnemonic = accepts mnemonic forms.Bit || accepts mnemonic forms.Value

-- "." and an address of data, behind DBn
unfoldable pub opened_operand : List ℕ → List ℕ → ℕ → Token → List Token → Result (Operand × Token × List Token) Fault
opened_operand text mnemonic number first tokens = do
  dot ← part_sign text mnemonic (codes ".") tokens
  row ← data_word text mnemonic dot.1
  operand ← plain_operand row.0.form text mnemonic row.0 first row.2
  known ← judged (is_data_number number) first
  Ok (record operand.0 { db = number }, operand.1, operand.2)

-- no system function block is of the language
abbrev pub unknown_operand : List ℕ → List ℕ → Token → Fault
unknown_operand text mnemonic first =
    if is_word text first (codes "SFB") && accepts mnemonic forms.Function then fault_at OutOfScope first
    else refused text mnemonic first

-- an operand that begins with a word that isn't in the table: DBn, or none
abbrev pub unnamed_operand : Option ℕ → List ℕ → List ℕ → Token → List Token → Result (Operand × Token × List Token) Fault
unnamed_operand None text mnemonic first rest = Err (unknown_operand text mnemonic first)
unnamed_operand (Some number) text mnemonic first rest =
    if takes_memory mnemonic then opened_operand text mnemonic number first rest else Err (unknown_operand text mnemonic first)

-- a label's name in upper case, filled up with zeros: one to four letters
abbrev pub label_name : List ℕ → Option (List ℕ)
label_name (a ∷ []) = Some (to_ascii_uppercase a ∷ 0 ∷ 0 ∷ 0 ∷ [])
label_name (a ∷ b ∷ []) = Some (to_ascii_uppercase a ∷ to_ascii_uppercase b ∷ 0 ∷ 0 ∷ [])
label_name (a ∷ b ∷ c ∷ []) = Some (to_ascii_uppercase a ∷ to_ascii_uppercase b ∷ to_ascii_uppercase c ∷ 0 ∷ [])
label_name (a ∷ b ∷ c ∷ d ∷ []) =
    Some (to_ascii_uppercase a ∷ to_ascii_uppercase b ∷ to_ascii_uppercase c ∷ to_ascii_uppercase d ∷ [])
label_name _ = None

-- the label of a jump; the number of its statement isn't known yet
abbrev pub label_operand : Option (List ℕ) → Token → List Token → Result (Operand × Token × List Token) Fault
label_operand None first rest = Err (fault_at BadOperand first)
label_operand (Some name) first rest =
    Ok (record { area = areas.Target; bit = 0; db = 0; value = 0; name = name }, first, rest)

abbrev pub word_by : Option OperandWord → List ℕ → List ℕ → Token → List Token → Result (Operand × Token × List Token) Fault
word_by (Some row) text mnemonic first rest = row_operand row.form text mnemonic row first rest
word_by None text mnemonic first rest = unnamed_operand (data_number (spelling text first)) text mnemonic first rest

-- an operand that begins with a word
unfoldable pub area_operand : List ℕ → List ℕ → Token → List Token → Result (Operand × Token × List Token) Fault
area_operand text mnemonic first rest =
    if accepts mnemonic forms.Label then label_operand (label_name (spelling text first)) first rest
    else word_by (operand_word (spelling text first)) text mnemonic first rest
