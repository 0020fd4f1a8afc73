-- Where the operand of a statement lies, over what the statements see, found before the statement does anything. An operand
-- that lies nowhere is an error, with its number. Finding an operand may change what the statements see.
use Rattle.std.specs.Prelude.{ℕ, ◌+◌, nat_le, length, if◌then◌else◌, Option, Some, None, Result, Ok, Err}
use Rattle.cpu_image.specs.declared.area.ByteArea.TheVariants.{Db}
use Rattle.level_stack.specs.Levels.{running_locals}
use Rattle.statement_effects.specs.State.{Memory}
use Rattle.statement_effects.specs.declared.areas.DataRegisters.{DataRegisters}
use Rattle.statement_effects.specs.declared.instruction.DataBlockName.{DataBlockName}
use Rattle.statement_effects.specs.declared.instruction.DataBlockName.TheVariants.{Opened, Instance, Numbered}
use Rattle.statement_effects.specs.declared.instruction.BitOperand.{BitOperand}
use Rattle.statement_effects.specs.declared.instruction.BitOperand.TheVariants as bits
use Rattle.statement_effects.specs.declared.instruction.ValueOperand.{ValueOperand}
use Rattle.statement_effects.specs.declared.instruction.ValueOperand.TheVariants as values
use Rattle.statement_effects.specs.Areas.{bytes_in, data_length}

-- an operand is there where some bytes of the local data of the block that runs are; past them it is error 2, which no statement
-- of a well-formed block meets
abbrev pub in_locals : {A : Type 0} → ℕ → A → Memory → Result (Memory × A) ℕ
in_locals end operand memory = if nat_le end (length (running_locals memory.levels)) then Ok (memory, operand) else Err 2

-- the number of the data block that an operand names: none where none is opened
abbrev pub data_number : DataBlockName → DataRegisters → Option ℕ
data_number Opened registers = registers.block
data_number Instance registers = registers.instance
data_number (Numbered number) registers = Some number

-- the memory with a data block opened as DB
abbrev pub with_opened : Memory → ℕ → Memory
with_opened memory number =
    record memory { registers = record memory.registers { «data» = record memory.registers.«data» { block = Some number } } }

-- an operand that names the number opens that data block
abbrev pub with_named : DataBlockName → Memory → Memory
with_named Opened memory = memory
with_named Instance memory = memory
with_named (Numbered number) memory = with_opened memory number

-- a data block has bytes up to an end: where it is not loaded that is error 8, and past its bytes error 2
abbrev pub in_bytes : ℕ → Option ℕ → Memory × ℕ → Result (Memory × ℕ) ℕ
in_bytes end None found = Err 8
in_bytes end (Some length) found = if nat_le end length then Ok found else Err 2

-- the same of the data block of a number; where none is opened that is error 8
abbrev pub in_block : ℕ → Option ℕ → Memory → Memory → Result (Memory × ℕ) ℕ
in_block end None memory after = Err 8
in_block end (Some number) memory after = in_bytes end (data_length memory number) (after, number)

-- the same of the data block that an operand names, with its number
abbrev pub in_data : DataBlockName → ℕ → Memory → Result (Memory × ℕ) ℕ
in_data name end memory = in_block end (data_number name memory.registers.«data») memory (with_named name memory)

-- the place in the data block of a number that was found
abbrev pub placed : {A : Type 0} → (ℕ → A) → Result (Memory × ℕ) ℕ → Result (Memory × A) ℕ
placed place (Ok found) = Ok (found.0, place found.1)
placed place (Err error) = Err error

-- the memory with the operand found, and its place: the bytes of the inputs, the outputs and the bit memory are always there
abbrev pub resolve_bit : BitOperand → Memory → Result (Memory × BitOperand) ℕ
resolve_bit (bits.Area place) memory = Ok (memory, bits.Area place)
resolve_bit (bits.Local place) memory = in_locals (place.at_byte + 1) (bits.Local place) memory
resolve_bit (bits.Data place) memory =
    placed (λ number. bits.Area (record { area = Db number; at_byte = place.at_byte; bit = place.bit }))
    (in_data place.block (place.at_byte + 1) memory)

abbrev pub resolve_value : ValueOperand → Memory → Result (Memory × ValueOperand) ℕ
resolve_value (values.Area place) memory = Ok (memory, values.Area place)
resolve_value (values.Local place) memory = in_locals (place.at_byte + bytes_in place.width) (values.Local place) memory
resolve_value (values.Data place) memory =
    placed (λ number. values.Area (record { area = Db number; at_byte = place.at_byte; width = place.width }))
    (in_data place.block (place.at_byte + bytes_in place.width) memory)

-- the row of a statement works on the place that was found; where none was, the statement fails
abbrev pub at_bit : (BitOperand → Memory → Memory) → Result (Memory × BitOperand) ℕ → Result Memory ℕ
at_bit row (Ok found) = Ok (row found.1 found.0)
at_bit row (Err error) = Err error

abbrev pub at_value : (ValueOperand → Memory → Memory) → Result (Memory × ValueOperand) ℕ → Result Memory ℕ
at_value row (Ok found) = Ok (row found.1 found.0)
at_value row (Err error) = Err error
