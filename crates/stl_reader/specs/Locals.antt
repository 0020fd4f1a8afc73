-- Named locals as operands, with a constant index behind the names of arrays.
use Rattle.std.specs.Prelude.{ℕ, List, drop, ◌==◌, ◌/◌, ◌%◌, min, Bool, false, Option, Some, None, Result, Ok, Err, if◌then◌else◌}
use Rattle.instruction_set.specs.declared.operands.OperandArea.TheVariants as areas
use Rattle.stl_lex.specs.declared.token.Token.{Token}
use Rattle.stl_decl.specs.declared.fault.Fault.{Fault}
use Rattle.stl_decl.specs.declared.fault.FaultKind.TheVariants.{BadOperand, UnknownName}
use Rattle.stl_decl.specs.declared.types.SimpleType.{SimpleType}
use Rattle.stl_decl.specs.declared.types.SimpleType.TheVariants as types
use Rattle.stl_decl.specs.declared.types.Variable.{Variable}
use Rattle.stl_decl.specs.Steps.{◌>>=◌, spelling, upper, fault_at}
use Rattle.stl_decl.specs.Types.{bits_of, element_bit}
use Rattle.stl_decl.specs.Layout.{Section, variable_of}
use Rattle.stl_decl.specs.Elements.{element_at}
use Rattle.stl_reader.specs.declared.forms.OperandForm.{OperandForm}
use Rattle.stl_reader.specs.declared.forms.OperandForm.TheVariants as forms
use Rattle.stl_reader.specs.declared.addresses.Operand.{Operand}
use Rattle.stl_reader.specs.Forms.{accepts}
use Rattle.stl_reader.specs.Addresses.{no_name}
use Rattle.stl_reader.specs.Operands.{takes_memory}

-- the form of operand that a name of the type is; names of 8 bytes are none
abbrev pub local_form : SimpleType → Option OperandForm
local_form types.Bool = Some forms.Bit
local_form types.DateAndTime = None
local_form _ = Some forms.Value

-- the bit that is stored for an element that begins at this bit: its own, or the unit of its type
abbrev pub local_unit : SimpleType → ℕ → ℕ
local_unit simple bit =
    if bits_of simple == 1 then bit % 8
    else (if bits_of simple == 8 then 8 else (if bits_of simple == 16 then 9 else 10))

-- an element of the local data that begins at this bit
abbrev pub local_at : SimpleType → ℕ → Operand
local_at simple bit = record {
  area = areas.Local;
  bit = local_unit simple bit;
  db = 0;
  value = min (bit / 8) 4294967295;
  name = no_name;
}

-- a name of this form may stand behind the mnemonic
abbrev pub suits_mnemonic : List ℕ → Option OperandForm → Bool
suits_mnemonic mnemonic None = false
suits_mnemonic mnemonic (Some form) = accepts mnemonic form

abbrev pub element_operand : List ℕ → Variable → Token → List Token → Result (Operand × Token × List Token) Fault
element_operand text variable first rest = do
  element ← element_at text variable.shape first rest
  Ok (local_at variable.shape.simple (element_bit variable element.0), element.1, element.2)

-- what stands behind the name of a variable
unfoldable pub variable_operand : List ℕ → List ℕ → Variable → Token → List Token → Result (Operand × Token × List Token) Fault
variable_operand text mnemonic variable first rest =
    if suits_mnemonic mnemonic (local_form variable.shape.simple) then element_operand text variable first rest
    else Err (fault_at BadOperand first)

abbrev pub named_local : Option Variable → List ℕ → List ℕ → Token → List Token → Result (Operand × Token × List Token) Fault
named_local None text mnemonic first rest = Err (fault_at UnknownName first)
named_local (Some variable) text mnemonic first rest = variable_operand text mnemonic variable first rest

-- `#` and a name: where no name may stand it isn't looked up
abbrev pub local_operand : List ℕ → Section → List ℕ → Token → List Token → Result (Operand × Token × List Token) Fault
local_operand text temps mnemonic first rest =
    if takes_memory mnemonic then named_local (variable_of temps (upper (drop 1 (spelling text first)))) text mnemonic first rest
    else Err (fault_at BadOperand first)
