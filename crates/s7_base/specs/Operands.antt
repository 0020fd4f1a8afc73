-- Which operands, as they are stored, an operation may have.
use Rattle.std.specs.Prelude.{ℕ, ◌+◌, ◌==◌, ◌&&◌, ◌||◌, Bool, nat_lt, nat_le, if◌then◌else◌}
use Rattle.s7_base.specs.declared.statement.Statement.{Statement}
use Rattle.instruction_set.specs.declared.operands.OperandKind.{OperandKind}
use Rattle.instruction_set.specs.declared.operands.OperandKind.TheVariants as kinds
use Rattle.instruction_set.specs.declared.operands.OperandArea.{OperandArea}
use Rattle.instruction_set.specs.declared.operands.OperandArea.TheVariants as areas
use Rattle.instruction_set.specs.Areas.{area_number}

-- the operand names this area
abbrev pub is_in : OperandArea → Statement → Bool
is_in area s = s.area == area_number area

-- data blocks have the numbers 1 to 255
abbrev pub is_data_number : ℕ → Bool
is_data_number number = nat_le 1 number && nat_le number 255

-- so many bytes from the address on lie within the first `size`
abbrev pub ends_by : ℕ → ℕ → Statement → Bool
ends_by size bytes s = nat_le (s.value + bytes) size

-- bytes of an area of this size
abbrev pub is_within : OperandArea → ℕ → ℕ → Statement → Bool
is_within area size bytes s = is_in area s && ends_by size bytes s

-- bytes of the CPU: of the inputs, the outputs, the bit memory, or of so many bytes of local data
abbrev pub is_of_cpu : ℕ → ℕ → Statement → Bool
is_of_cpu locals bytes s =
    is_within areas.Inputs 64 bytes s || is_within areas.Outputs 64 bytes s
    || is_within areas.Memory 1024 bytes s || is_within areas.Local locals bytes s

-- bytes of the data block opened as DB or DI; a statement may open one as DB by its number
abbrev pub is_of_data : ℕ → Statement → Bool
is_of_data bytes s =
    is_within areas.Data 65536 bytes s && (s.db == 0 || is_data_number s.db)
    || is_within areas.Instance 65536 bytes s && s.db == 0

-- so many bytes of memory
abbrev pub is_memory : ℕ → ℕ → Statement → Bool
is_memory locals bytes s = is_of_cpu locals bytes s && s.db == 0 || is_of_data bytes s

-- a bit of memory
abbrev pub is_bit : ℕ → Statement → Bool
is_bit locals s = nat_le s.bit 7 && is_memory locals 1 s

-- the bytes of a stored unit: 8 is a byte, 9 a word, 10 a double word; 0 where it is none of these
abbrev pub unit_bytes : ℕ → ℕ
unit_bytes unit = if unit == 8 then 1 else if unit == 9 then 2 else if unit == 10 then 4 else 0

-- a byte, a word or a double word of memory
abbrev pub is_value : ℕ → Statement → Bool
is_value locals s = nat_lt 0 (unit_bytes s.bit) && is_memory locals (unit_bytes s.bit) s

-- a byte, a word or a double word of the peripheral inputs or outputs
abbrev pub is_peripheral : OperandArea → Statement → Bool
is_peripheral area s = nat_lt 0 (unit_bytes s.bit) && is_within area 1024 (unit_bytes s.bit) s && s.db == 0

-- an operand that is a number alone
abbrev pub is_number : OperandArea → Statement → Bool
is_number area s = is_in area s && s.bit == 0 && s.db == 0

-- such a number, at most this
abbrev pub is_up_to : OperandArea → ℕ → Statement → Bool
is_up_to area most s = is_number area s && nat_le s.value most

-- this number
abbrev pub is_exactly : OperandArea → ℕ → Statement → Bool
is_exactly area number s = is_number area s && s.value == number

abbrev pub is_nothing : Statement → Bool
is_nothing s = is_exactly areas.Nothing 0 s

abbrev pub is_timer_or_counter : Statement → Bool
is_timer_or_counter s = is_up_to areas.Timer 255 s || is_up_to areas.Counter 255 s

abbrev pub is_constant : Statement → Bool
is_constant s = is_up_to areas.Word 65535 s || is_number areas.DoubleWord s

-- the length or the number of an opened data block
abbrev pub is_about_data : Statement → Bool
is_about_data s =
    is_exactly areas.DataLength 0 s || is_exactly areas.DataNumber 0 s
    || is_exactly areas.InstanceLength 0 s || is_exactly areas.InstanceNumber 0 s

-- whether an operand of a kind may be stored so, in a block with so many bytes of local data
abbrev pub allows : OperandKind → ℕ → Statement → Bool
allows kinds.Nothing locals s = is_nothing s
allows kinds.CheckedBit locals s = is_bit locals s || is_timer_or_counter s || is_up_to areas.Status 9 s
allows kinds.WrittenBit locals s = is_bit locals s
allows kinds.SetBit locals s = is_bit locals s || is_up_to areas.Counter 255 s
allows kinds.ResetBit locals s = is_bit locals s || is_timer_or_counter s
allows kinds.Loaded locals s =
    is_value locals s || is_peripheral areas.PeripheralIn s || is_constant s
    || is_timer_or_counter s || is_exactly areas.StatusWord 0 s || is_about_data s
allows kinds.Stored locals s =
    is_value locals s || is_peripheral areas.PeripheralOut s || is_exactly areas.StatusWord 0 s
allows kinds.Coded locals s = is_timer_or_counter s
allows kinds.Addend locals s = is_constant s
allows (kinds.UpTo most) locals s = is_up_to areas.Word most s
allows (kinds.Exactly number) locals s = is_exactly areas.Word number s
allows (kinds.AtMost most) locals s = is_nothing s || is_up_to areas.Word most s
allows kinds.Mask locals s = is_nothing s || is_number areas.DoubleWord s
allows kinds.Target locals s = is_number areas.Target s
allows kinds.Timer locals s = is_up_to areas.Timer 255 s
allows kinds.Counter locals s = is_up_to areas.Counter 255 s
allows kinds.DataBlock locals s = is_number areas.Data s && is_data_number s.value
allows kinds.InstanceBlock locals s = is_number areas.Instance s && is_data_number s.value
allows kinds.Function locals s = is_up_to areas.Function 255 s
allows kinds.FunctionBlock locals s = is_up_to areas.FunctionBlock 255 s
allows kinds.FunctionBlockWithData locals s =
    is_in areas.FunctionBlock s && s.bit == 0 && nat_le s.value 255 && is_data_number s.db
allows (kinds.SystemFunction number) locals s = is_exactly areas.SystemFunction number s
