-- The words and signs that operands begin with, by groups: how an operand is written, the area that it names, the unit
-- in which it is stored (8 a byte, 9 a word, 10 a double word), and its value where no number stands behind the word.
use Rattle.std.specs.Prelude.{ℕ, List, [], ◌∷◌, ◌++◌, codes}
use Prim.Native.String.{String}
use Rattle.stl_lex.specs.Bytes.{in_field}
use Rattle.instruction_set.specs.declared.operands.OperandArea.{OperandArea}
use Rattle.instruction_set.specs.declared.operands.OperandArea.TheVariants as areas
use Rattle.stl_reader.specs.declared.forms.OperandForm.{OperandForm}
use Rattle.stl_reader.specs.declared.forms.OperandForm.TheVariants as forms
use Rattle.stl_reader.specs.declared.words.OperandWord.{OperandWord}
use Rattle.stl_reader.specs.declared.words.StatusSign.{StatusSign}

abbrev pub entry : String → OperandForm → OperandArea → ℕ → ℕ → OperandWord
entry word form area unit value = record { spelling = in_field 4 (codes word); form = form; area = area; unit = unit; value = value }

abbrev pub bit : String → OperandArea → OperandWord
bit word area = entry word forms.Bit area 0 0

abbrev pub bits : List OperandWord
bits =
    bit "I" areas.Inputs ∷ bit "Q" areas.Outputs ∷ bit "M" areas.Memory ∷ bit "L" areas.Local
    ∷ bit "DBX" areas.Data ∷ bit "DIX" areas.Instance ∷ []

-- a byte, a word and a double word of an area
abbrev pub widths : OperandForm → OperandArea → String → String → String → List OperandWord
widths form area byte word double = entry byte form area 8 0 ∷ entry word form area 9 0 ∷ entry double form area 10 0 ∷ []

abbrev pub values : List OperandWord
values =
    widths forms.Value areas.Inputs "IB" "IW" "ID" ++ widths forms.Value areas.Outputs "QB" "QW" "QD"
    ++ widths forms.Value areas.Memory "MB" "MW" "MD" ++ widths forms.Value areas.Local "LB" "LW" "LD"
    ++ widths forms.Value areas.Data "DBB" "DBW" "DBD" ++ widths forms.Value areas.Instance "DIB" "DIW" "DID"
    ++ widths forms.PeripheralIn areas.PeripheralIn "PIB" "PIW" "PID"
    ++ widths forms.PeripheralOut areas.PeripheralOut "PQB" "PQW" "PQD"

abbrev pub timer_and_counter : List OperandWord
timer_and_counter = entry "T" forms.Timer areas.Timer 0 0 ∷ entry "C" forms.Counter areas.Counter 0 0 ∷ []

-- status operands are numbered from 0: BR OV OS UO ==0 <>0 >0 <0 >=0 <=0
abbrev pub status : List OperandWord
status =
    entry "BR" forms.Status areas.Status 0 0 ∷ entry "OV" forms.Status areas.Status 0 1
    ∷ entry "OS" forms.Status areas.Status 0 2 ∷ entry "UO" forms.Status areas.Status 0 3
    ∷ entry "STW" forms.StatusWord areas.StatusWord 0 0 ∷ []

-- length and number of the opened data blocks
abbrev pub data_registers : List OperandWord
data_registers =
    entry "DBLG" forms.DataRegister areas.DataLength 0 0 ∷ entry "DBNO" forms.DataRegister areas.DataNumber 0 0
    ∷ entry "DILG" forms.DataRegister areas.InstanceLength 0 0 ∷ entry "DINO" forms.DataRegister areas.InstanceNumber 0 0 ∷ []

abbrev pub blocks : List OperandWord
blocks =
    entry "DB" forms.DataBlock areas.Data 0 0 ∷ entry "DI" forms.InstanceBlock areas.Instance 0 0
    ∷ entry "FC" forms.Function areas.Function 0 0 ∷ entry "FB" forms.FunctionBlock areas.FunctionBlock 0 0
    ∷ entry "SFC" forms.SystemFunction areas.SystemFunction 0 0 ∷ []

abbrev pub operand_words : List OperandWord
operand_words = bits ++ values ++ timer_and_counter ++ status ++ data_registers ++ blocks

-- a comparison with 0, as a status operand
abbrev pub sign : String → ℕ → StatusSign
sign letters value = record { sign = in_field 2 (codes letters); value = value }

abbrev pub status_signs : List StatusSign
status_signs = sign "==" 4 ∷ sign "<>" 5 ∷ sign ">" 6 ∷ sign "<" 7 ∷ sign ">=" 8 ∷ sign "<=" 9 ∷ []
