-- What holds of the tables of the language: each word says its area and its unit, and a mnemonic with an operand names
-- one operation.
use Rattle.std.specs.Prelude.{◌≡◌, ℕ, List, [], ◌∷◌, ◌++◌, ◌==◌, ◌&&◌, ◌||◌, not, map, Bool, true, false, if◌then◌else◌, codes}
use Rattle.std.specs.List.{list_all, list_any}
use Rattle.std.specs.Str.{bytes_eq}
use Rattle.instruction_set.specs.declared.operands.OperandArea.{OperandArea}
use Rattle.instruction_set.specs.declared.operands.OperandArea.TheVariants as areas
use Rattle.s7_base.specs.declared.statement.Statement.{Statement}
use Rattle.instruction_set.specs.declared.table.InstructionRow.{InstructionRow}
use Rattle.instruction_set.specs.InstructionSet.{instruction_set}
use Rattle.s7_base.specs.Operands.{allows}
use Rattle.stl_lex.specs.Bytes.{letters_of}
use Rattle.stl_reader.specs.declared.forms.OperandForm.{OperandForm}
use Rattle.stl_reader.specs.declared.forms.OperandForm.TheVariants as forms
use Rattle.stl_reader.specs.declared.words.OperandWord.{OperandWord}
use Rattle.stl_reader.specs.OperandWords.{operand_words}
use Rattle.stl_reader.specs.Forms.{accepts}
use Rattle.reader_laws.specs.Tokens.{IsOneOf}

-- the letters of an area
abbrev pub area_letters : OperandArea → List ℕ
area_letters areas.Inputs = codes "I"
area_letters areas.Outputs = codes "Q"
area_letters areas.Memory = codes "M"
area_letters areas.Local = codes "L"
area_letters areas.Data = codes "DB"
area_letters areas.Instance = codes "DI"
area_letters areas.PeripheralIn = codes "PI"
area_letters areas.PeripheralOut = codes "PQ"
area_letters areas.Timer = codes "T"
area_letters areas.Counter = codes "C"
area_letters areas.StatusWord = codes "STW"
area_letters areas.DataLength = codes "DBLG"
area_letters areas.DataNumber = codes "DBNO"
area_letters areas.InstanceLength = codes "DILG"
area_letters areas.InstanceNumber = codes "DINO"
area_letters areas.Function = codes "FC"
area_letters areas.FunctionBlock = codes "FB"
area_letters areas.SystemFunction = codes "SFC"
area_letters _ = []

-- the letter of a byte, a word or a double word
abbrev pub unit_letter : ℕ → List ℕ
unit_letter unit = if unit == 8 then codes "B" else if unit == 9 then codes "W" else if unit == 10 then codes "D" else []

-- a bit of a data block has an X
abbrev pub bit_letter : OperandArea → List ℕ
bit_letter areas.Data = codes "X"
bit_letter areas.Instance = codes "X"
bit_letter _ = []

-- the status operands that are words, by their numbers
abbrev pub status_letters : ℕ → List ℕ
status_letters value =
    if value == 0 then codes "BR" else if value == 1 then codes "OV" else if value == 2 then codes "OS" else if value == 3 then codes "UO" else []

-- The word of an operand: the inverse of the table of words. A bit is its area and, of data, an X; a value is its area
-- and the letter of its unit; all others are their area alone, and have no unit.
abbrev pub word_of : OperandForm → OperandArea → ℕ → ℕ → List ℕ
word_of forms.Bit area unit value = area_letters area ++ bit_letter area
word_of forms.Value area unit value = area_letters area ++ unit_letter unit
word_of forms.PeripheralIn area unit value = area_letters area ++ unit_letter unit
word_of forms.PeripheralOut area unit value = area_letters area ++ unit_letter unit
word_of forms.Status area unit value = status_letters value
word_of _ area unit value = area_letters area

abbrev pub has_unit : OperandForm → Bool
has_unit forms.Value = true
has_unit forms.PeripheralIn = true
has_unit forms.PeripheralOut = true
has_unit _ = false

-- values have a unit, and all others none
abbrev pub unit_fits : OperandForm → ℕ → Bool
unit_fits form unit = if has_unit form then unit == 8 || unit == 9 || unit == 10 else unit == 0

-- the row has the word of its area and its unit
abbrev pub is_its_word : OperandWord → Bool
is_its_word row = bytes_eq (letters_of row.spelling) (word_of row.form row.area row.unit row.value) && unit_fits row.form row.unit

-- no word stands twice
abbrev pub are_apart : List (List ℕ) → Bool
are_apart [] = true
are_apart (w ∷ ws) = not (list_any (bytes_eq w) ws) && are_apart ws

-- each word of the table is that of its area and its unit, and no word stands twice
pub record WordsSayTheirOperands : Type 0 where
  pub words : list_all is_its_word operand_words ≡ true
  pub apart : are_apart (map (λ row. letters_of row.spelling) operand_words) ≡ true

-- rows with one mnemonic have no operand in common: a mnemonic with an operand names one operation
abbrev pub OneOperationForAnOperand : Type 0
OneOperationForAnOperand =
    (a b : InstructionRow) (locals : ℕ) (s : Statement) → IsOneOf a instruction_set → IsOneOf b instruction_set
    → a.mnemonic ≡ b.mnemonic → allows a.operand locals s ≡ true → allows b.operand locals s ≡ true → a ≡ b

-- Which forms stand behind one mnemonic: one that takes a label takes nothing else; none takes an FB both alone and with
-- a data block; one that takes system functions takes functions.
pub record FormsStandApart : Type 0 where
  pub label : (mnemonic : List ℕ) (form : OperandForm) → accepts mnemonic forms.Label ≡ true → accepts mnemonic form ≡ true → form ≡ forms.Label
  pub block : (mnemonic : List ℕ) → accepts mnemonic forms.FunctionBlock ≡ true → accepts mnemonic forms.FunctionBlockWithData ≡ false
  pub system : (mnemonic : List ℕ) → accepts mnemonic forms.SystemFunction ≡ true → accepts mnemonic forms.Function ≡ true
