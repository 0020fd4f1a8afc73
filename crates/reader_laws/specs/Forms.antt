-- Which forms of operands stand behind which mnemonics: by what the operations allow.
use Rattle.std.specs.Prelude.{◌≡◌, ℕ, List, [], ◌∷◌, ◌++◌, ◌||◌, not, Bool, true}
use Rattle.std.specs.List.{list_all}
use Rattle.instruction_set.specs.declared.operands.OperandArea.{OperandArea}
use Rattle.instruction_set.specs.declared.operands.OperandArea.TheVariants as areas
use Rattle.instruction_set.specs.declared.operands.OperandKind.{OperandKind}
use Rattle.instruction_set.specs.declared.operands.OperandKind.TheVariants as kinds
use Rattle.instruction_set.specs.declared.table.InstructionRow.{InstructionRow}
use Rattle.instruction_set.specs.Areas.{area_number}
use Rattle.instruction_set.specs.InstructionSet.{instruction_set}
use Rattle.s7_base.specs.declared.statement.Statement.{Statement}
use Rattle.s7_base.specs.Operands.{allows}
use Rattle.stl_reader.specs.declared.forms.OperandForm.{OperandForm}
use Rattle.stl_reader.specs.declared.forms.OperandForm.TheVariants as forms
use Rattle.stl_reader.specs.Forms.{takes}

-- an operand as it is stored
abbrev pub written : OperandArea → ℕ → ℕ → ℕ → Statement
written area bit db value = record { op = 0; area = area_number area; bit = bit; db = db; value = value }

-- the number of an operation that takes one number alone
abbrev pub number_of_kind : OperandKind → ℕ
number_of_kind (kinds.Exactly number) = number
number_of_kind (kinds.SystemFunction number) = number
number_of_kind _ = 0

-- an operand that is written in this form
abbrev pub example : OperandKind → OperandForm → Statement
-- I 0.0, MW 0, PIW 0, PQW 0
example kind forms.Bit = written areas.Inputs 0 0 0
example kind forms.Value = written areas.Memory 9 0 0
example kind forms.PeripheralIn = written areas.PeripheralIn 9 0 0
example kind forms.PeripheralOut = written areas.PeripheralOut 9 0 0
-- T 0, C 0, BR, STW, DBLG
example kind forms.Timer = written areas.Timer 0 0 0
example kind forms.Counter = written areas.Counter 0 0 0
example kind forms.Status = written areas.Status 0 0 0
example kind forms.StatusWord = written areas.StatusWord 0 0 0
example kind forms.DataRegister = written areas.DataLength 0 0 0
-- 0, or the number that the operation takes; +0, L#0, W#16#0, DW#16#0, B#16#0
example kind forms.Number = written areas.Word 0 0 (number_of_kind kind)
example kind forms.SignedNumber = written areas.Word 0 0 0
example kind forms.LongInteger = written areas.DoubleWord 0 0 0
example kind forms.WordPattern = written areas.Word 0 0 0
example kind forms.DoubleWordPattern = written areas.DoubleWord 0 0 0
example kind forms.OtherLiteral = written areas.Word 0 0 0
-- a label; DB 1, DI 1, FC 0, FB 0, `FB 0, DB 1`, SFC n
example kind forms.Label = written areas.Target 0 0 0
example kind forms.DataBlock = written areas.Data 0 0 1
example kind forms.InstanceBlock = written areas.Instance 0 0 1
example kind forms.Function = written areas.Function 0 0 0
example kind forms.FunctionBlock = written areas.FunctionBlock 0 0 0
example kind forms.FunctionBlockWithData = written areas.FunctionBlock 0 1 0
example kind forms.SystemFunction = written areas.SystemFunction 0 0 (number_of_kind kind)

-- forms whose operands are stored as those of no other form
abbrev pub own_forms : List OperandForm
own_forms =
    forms.Bit ∷ forms.Value ∷ forms.PeripheralIn ∷ forms.PeripheralOut ∷ forms.Timer ∷ forms.Counter ∷ forms.Status ∷ forms.StatusWord
    ∷ forms.DataRegister ∷ forms.Label ∷ forms.Function ∷ forms.FunctionBlock ∷ forms.FunctionBlockWithData ∷ forms.SystemFunction ∷ []

-- constants share what is stored, and DB 1 is stored as DBX 1.0 is
abbrev pub shared_forms : List OperandForm
shared_forms =
    forms.Number ∷ forms.SignedNumber ∷ forms.LongInteger ∷ forms.WordPattern ∷ forms.DoubleWordPattern ∷ forms.OtherLiteral
    ∷ forms.DataBlock ∷ forms.InstanceBlock ∷ []

abbrev pub is_allowed : InstructionRow → OperandForm → Bool
is_allowed row form = allows row.operand 256 (example row.operand form)

-- An operation that takes a form allows an operand that is written in it; and where operands of the form are stored as no
-- others are, an operation that allows one takes the form.
pub record FormsAreOfTheirOperations : Type 0 where
  pub taken : list_all (λ row. list_all (λ form. not (takes row.operand form) || is_allowed row form) (own_forms ++ shared_forms)) instruction_set ≡ true
  pub allowed : list_all (λ row. list_all (λ form. not (is_allowed row form) || takes row.operand form) own_forms) instruction_set ≡ true
