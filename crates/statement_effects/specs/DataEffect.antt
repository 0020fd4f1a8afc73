-- What the statements on the data blocks that are opened do. None changes a status bit.
use Rattle.std.specs.Prelude.{ℕ, Option, Some, is_some, unwrap_or, Result, Ok, Err, if◌then◌else◌}
use Rattle.s7_events.specs.Optional.{◌>>=◌}
use Rattle.statement_effects.specs.declared.areas.DataRegisters.{DataRegisters}
use Rattle.statement_effects.specs.State.{Memory}
use Rattle.statement_effects.specs.declared.instruction.DataNumber.{DataNumber}
use Rattle.statement_effects.specs.declared.instruction.DataNumber.TheVariants as numbers
use Rattle.statement_effects.specs.declared.instruction.DataInstruction.{DataInstruction}
use Rattle.statement_effects.specs.declared.instruction.DataInstruction.TheVariants as data_blocks
use Rattle.statement_effects.specs.Areas.{data_length}
use Rattle.statement_effects.specs.MoveEffect.{with_loaded}

abbrev pub with_data : Memory → DataRegisters → Memory
with_data memory registers = record memory { registers = record memory.registers { «data» = registers } }

-- the data block of a number is opened, so that these are opened; one that is not loaded is error 8
abbrev pub opened : ℕ → DataRegisters → Memory → Result Memory ℕ
opened number registers memory = if is_some (data_length memory number) then Ok (with_data memory registers) else Err 8

-- CDB
abbrev pub exchanged : DataRegisters → DataRegisters
exchanged registers = record { block = registers.instance; instance = registers.block }

-- the length in bytes of the data block that is opened, 0 where none is
abbrev pub opened_length : Memory → Option ℕ → ℕ
opened_length memory number = unwrap_or (number >>= data_length memory) 0

-- the number of the data block that is opened, 0 where none is
abbrev pub opened_number : Option ℕ → ℕ
opened_number number = unwrap_or number 0

-- DBLG, DBNO, DILG and DINO
abbrev pub number_of : DataNumber → Memory → ℕ
number_of numbers.Length memory = opened_length memory memory.registers.«data».block
number_of numbers.Number memory = opened_number memory.registers.«data».block
number_of numbers.InstanceLength memory = opened_length memory memory.registers.«data».instance
number_of numbers.InstanceNumber memory = opened_number memory.registers.«data».instance

-- OPN, CDB, and L of a length or a number
abbrev pub effect_data : DataInstruction → Memory → Result Memory ℕ
effect_data (data_blocks.Open number) memory = opened number (record memory.registers.«data» { block = Some number }) memory
effect_data (data_blocks.OpenInstance number) memory = opened number (record memory.registers.«data» { instance = Some number }) memory
effect_data data_blocks.Exchange memory = Ok (with_data memory (exchanged memory.registers.«data»))
effect_data (data_blocks.Load what) memory = Ok (with_loaded memory (number_of what memory))
