-- The operand of a stored statement. It is stored as an area, a bit or a unit, and an address, a number or a constant.
use Rattle.std.specs.Prelude.{ℕ, ◌+◌, ◌==◌, ◌&&◌, nat_lt, nat_le, Option, Some, None, if◌then◌else◌}
use Rattle.s7_base.specs.declared.statement.Statement.{Statement}
use Rattle.instruction_set.specs.declared.operands.OperandArea.{OperandArea}
use Rattle.instruction_set.specs.declared.operands.OperandArea.TheVariants as areas
use Rattle.s7_base.specs.Operands.{is_in}
use Rattle.instruction_set.specs.declared.operands.OperandKind.{OperandKind}
use Rattle.instruction_set.specs.declared.operands.OperandKind.TheVariants as kinds
use Rattle.s7_events.specs.Optional.{◌>>=◌}
use Rattle.std.specs.Option.{option_map}
use Rattle.s7_base.specs.declared.blocks.CodeKind.{CodeKind}
use Rattle.s7_base.specs.declared.blocks.CodeKind.TheVariants.{Fb, Fc}
use Rattle.cpu_image.specs.declared.area.ByteArea.{ByteArea}
use Rattle.cpu_image.specs.declared.area.ByteArea.TheVariants.{I, Q, M}
use Rattle.statement_effects.specs.declared.instruction.Width.{Width}
use Rattle.statement_effects.specs.declared.instruction.Width.TheVariants as widths
use Rattle.statement_effects.specs.declared.instruction.Access.{Access}
use Rattle.statement_effects.specs.declared.instruction.DataBlockName.{DataBlockName}
use Rattle.statement_effects.specs.declared.instruction.DataBlockName.TheVariants.{Opened, Instance, Numbered}
use Rattle.statement_effects.specs.declared.instruction.DataNumber.TheVariants as numbers
use Rattle.statement_effects.specs.declared.instruction.BitOperand.TheVariants as bits
use Rattle.statement_effects.specs.declared.instruction.ValueOperand.TheVariants as values
use Rattle.statement_effects.specs.declared.instruction.Operand.{Operand}
use Rattle.statement_effects.specs.declared.instruction.Operand.TheVariants as operands
use Rattle.statement_effects.specs.Areas.{size_of, bytes_in}

-- the width of a stored unit: 8 is a byte, 9 a word, 10 a double word
abbrev pub width_of : ℕ → Option Width
width_of unit =
    if unit == 8 then Some widths.Byte
    else if unit == 9 then Some widths.Word
    else if unit == 10 then Some widths.Double
    else None

-- a bit of an area, in the area
abbrev pub bit_operand : ByteArea → Statement → Option Operand
bit_operand area s =
    if nat_lt s.value (size_of area)
    then Some (operands.Bit (bits.Area (record { area = area; at_byte = s.value; bit = s.bit })))
    else None

-- a value of an area, in the area
abbrev pub value_operand : ByteArea → Statement → Option Operand
value_operand area s = do
  width ← width_of s.bit
  if nat_le (s.value + bytes_in width) (size_of area) then Some (operands.Value (values.Area (record { area = area; at_byte = s.value; width = width }))) else None

-- bits are 0 to 7, units are above them
abbrev pub byte_operand : ByteArea → Statement → Option Operand
byte_operand area s = if nat_le s.bit 7 then bit_operand area s else value_operand area s

-- a bit or a value of the local data, which has 256 bytes at most
abbrev pub local_operand : Statement → Option Operand
local_operand s =
    if nat_le s.value 255
    then (if nat_le s.bit 7 then Some (operands.Bit (bits.Local (record { at_byte = s.value; bit = s.bit })))
    else option_map (λ width. operands.Value (values.Local (record { at_byte = s.value; width = width }))) (width_of s.bit))
    else None

-- the data block that an operand of area DB names: that of a number, as `DBn.` does, or the one that is opened
abbrev pub data_block_of : Statement → Option DataBlockName
data_block_of s = if s.db == 0 then Some Opened else if nat_le s.db 255 then Some (Numbered s.db) else None

-- a bit or a value of a data block
abbrev pub data_operand : Statement → DataBlockName → Option Operand
data_operand s block =
    if nat_le s.value 65535
    then (if nat_le s.bit 7 then Some (operands.Bit (bits.Data (record { block = block; at_byte = s.value; bit = s.bit })))
    else option_map (λ width. operands.Value (values.Data (record { block = block; at_byte = s.value; width = width }))) (width_of s.bit))
    else None

-- a bit or a value of the data block that is opened as DB, or that the operand names
abbrev pub named_data_operand : Statement → Option Operand
named_data_operand s = data_block_of s >>= data_operand s

abbrev pub access_at : ℕ → Width → Access
access_at addr width = record { addr = addr; width = width }

-- a value of the peripherals, which are known by an address of 16 bits
abbrev pub access_of : Statement → Option Access
access_of s = if nat_le s.value 65535 then option_map (access_at s.value) (width_of s.bit) else None

-- a number or a constant, at most this
abbrev pub up_to : ℕ → (ℕ → Operand) → Statement → Option Operand
up_to most operand s = if nat_le s.value most then Some (operand s.value) else None

-- the block of a kind that is called
abbrev pub block_operand : CodeKind → Statement → Option Operand
block_operand kind s = up_to 255 (λ number. operands.Block (record { kind = kind; number = number })) s

-- the length or the number of an opened data block
abbrev pub data_number_of : Statement → Option Operand
data_number_of s =
    if is_in areas.DataLength s then Some (operands.DataNumber numbers.Length)
    else if is_in areas.DataNumber s then Some (operands.DataNumber numbers.Number)
    else if is_in areas.InstanceLength s then Some (operands.DataNumber numbers.InstanceLength)
    else if is_in areas.InstanceNumber s then Some (operands.DataNumber numbers.InstanceNumber)
    else None

-- an operand that is none of the areas of bytes
abbrev pub other_operand : Statement → Option Operand
other_operand s =
    if is_in areas.Nothing s then Some operands.Nothing
    else if is_in areas.Timer s then up_to 255 operands.Timer s
    else if is_in areas.Counter s then up_to 255 operands.Counter s
    else if is_in areas.Word s then up_to 65535 operands.Word s
    else if is_in areas.DoubleWord s then Some (operands.DoubleWord s.value)
    else if is_in areas.Target s then Some (operands.Target s.value)
    else if is_in areas.Status s then up_to 9 operands.Status s
    else if is_in areas.StatusWord s then Some operands.StatusWord
    else if is_in areas.Function s then block_operand Fc s
    else if is_in areas.FunctionBlock s then block_operand Fb s
    else if is_in areas.SystemFunction s then Some operands.SystemFunction
    else data_number_of s

-- the operand of its area
abbrev pub operand_of : Statement → Option Operand
operand_of s =
    if is_in areas.Inputs s then byte_operand I s
    else if is_in areas.Outputs s then byte_operand Q s
    else if is_in areas.Memory s then byte_operand M s
    else if is_in areas.Local s then local_operand s
    else if is_in areas.Data s then named_data_operand s
    else if is_in areas.Instance s then data_operand s Instance
    else if is_in areas.PeripheralIn s then option_map operands.PeripheralIn (access_of s)
    else if is_in areas.PeripheralOut s then option_map operands.PeripheralOut (access_of s)
    else other_operand s

-- the data block that is opened, whose number is stored in this area
abbrev pub opened_operand : OperandArea → (ℕ → Operand) → Statement → Option Operand
opened_operand area operand s = if is_in area s then up_to 255 operand s else None

-- a function block that is called with a data block
abbrev pub block_with_data : Statement → Option Operand
block_with_data s =
    if is_in areas.FunctionBlock s && nat_le s.value 255 && nat_le s.db 255
    then Some (operands.BlockWithData (record { kind = Fb; number = s.value }) s.db)
    else None

-- the operand of an operation that takes this kind. The number of a data block that is opened is stored where other operations
-- have an address in it, and CALL of a function block stores that of its data block beside it
abbrev pub operand_for : OperandKind → Statement → Option Operand
operand_for kinds.DataBlock s = opened_operand areas.Data operands.DataBlock s
operand_for kinds.InstanceBlock s = opened_operand areas.Instance operands.InstanceBlock s
operand_for kinds.FunctionBlockWithData s = block_with_data s
operand_for _ s = operand_of s
