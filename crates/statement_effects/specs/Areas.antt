-- What the statements see, and how parts of it are read and written.
use Rattle.std.specs.Prelude.{ℕ, ◌+◌, ◌%◌, Bool, false, List, [], Option, None, length, replicate, slice_range}
use Rattle.std.specs.Option.{option_map}
use Rattle.s7_base.specs.Blocks.{Program}
use Rattle.cpu_image.specs.declared.area.ByteArea.{ByteArea}
use Rattle.cpu_image.specs.declared.area.ByteArea.TheVariants.{I, Q, M, Db}
use Rattle.cpu_image.specs.Values.{bit_in, with_bit}
use Rattle.cpu_image.specs.Image as image
use Rattle.cpu_image.specs.Layout.{laid}
use Rattle.cpu_image.specs.Pages as pages
use Rattle.status_word.specs.declared.status.StatusWord.{StatusWord}
use Rattle.status_word.specs.Status.{cleared_status}
use Rattle.accumulators.specs.declared.accus.Accus.{Accus}
use Rattle.accumulators.specs.Moves.{cleared_accus}
use Rattle.bit_unit.specs.State.{cleared_unit}
use Rattle.bit_unit.specs.Steps.{is_zone_off}
use Rattle.timers.specs.State as timers
use Rattle.counters.specs.State as counters
use Rattle.level_stack.specs.Values.{value_of}
use Rattle.level_stack.specs.Levels.{with_last, written, running_locals}
use Rattle.statement_effects.specs.declared.areas.Registers.{Registers}
use Rattle.statement_effects.specs.State.{Memory}
use Rattle.statement_effects.specs.declared.instruction.BitPlace.{BitPlace}
use Rattle.statement_effects.specs.declared.instruction.ValuePlace.{ValuePlace}
use Rattle.statement_effects.specs.declared.instruction.BitOperand.{BitOperand}
use Rattle.statement_effects.specs.declared.instruction.BitOperand.TheVariants as bit_operands
use Rattle.statement_effects.specs.declared.instruction.ValueOperand.{ValueOperand}
use Rattle.statement_effects.specs.declared.instruction.ValueOperand.TheVariants as value_operands
use Rattle.statement_effects.specs.declared.instruction.Width.{Width}
use Rattle.statement_effects.specs.declared.instruction.Width.TheVariants.{Byte, Word, Double}

-- registers --

-- where no block has begun
abbrev pub clear_registers : Registers
clear_registers = record { status = cleared_status; accus = cleared_accus; unit = cleared_unit; «data» = record { block = None; instance = None } }

abbrev pub with_registers : Memory → Registers → Memory
with_registers memory registers = record memory { registers = registers }

abbrev pub with_status : Memory → StatusWord → Memory
with_status memory status = record memory { registers = record memory.registers { status = status } }

abbrev pub with_accus : Memory → Accus → Memory
with_accus memory accus = record memory { registers = record memory.registers { accus = accus } }

-- a zone of the MCR is off
abbrev pub is_off : Memory → Bool
is_off memory = is_zone_off memory.registers.unit

-- areas --

-- how many bytes an area always has: a data block may be missing
abbrev pub size_of : ByteArea → ℕ
size_of I = 64
size_of Q = 64
size_of M = 1024
size_of (Db number) = 0

-- how many bytes the data block of a number has, if it is loaded
abbrev pub data_length : Memory → ℕ → Option ℕ
data_length memory number = option_map (λ (bytes : List ℕ). length bytes) (image.bytes_of memory.image (Db number))

-- the bit at a place of an area
abbrev pub area_bit_at : Memory → BitPlace → Bool
area_bit_at memory place = image.bit_at memory.image place.area place.at_byte place.bit

abbrev pub with_area_bit_at : Memory → BitPlace → Bool → Memory
with_area_bit_at memory place value = record memory { image = pages.bit_written place.area place.at_byte place.bit value memory.image }

-- local data --

-- the value of some local bytes of the block that runs, the highest first
abbrev pub local_value : Memory → ℕ → ℕ → ℕ
local_value memory at width = value_of (slice_range (running_locals memory.levels) at (at + width))

abbrev pub with_local_value : Memory → ℕ → ℕ → ℕ → Memory
with_local_value memory at width value = record memory { levels = with_last (written at width value) memory.levels }

-- bits of areas and of local data --

-- the bit at a place that was found
abbrev pub bit_at : Memory → BitOperand → Bool
bit_at memory (bit_operands.Area place) = area_bit_at memory place
bit_at memory (bit_operands.Local place) = bit_in (local_value memory place.at_byte 1) place.bit
bit_at memory (bit_operands.Data place) = false

abbrev pub with_bit_at : Memory → BitOperand → Bool → Memory
with_bit_at memory (bit_operands.Area place) value = with_area_bit_at memory place value
with_bit_at memory (bit_operands.Local place) value =
    with_local_value memory place.at_byte 1 (with_bit (local_value memory place.at_byte 1) place.bit value)
with_bit_at memory (bit_operands.Data place) value = memory

-- values, whose first byte is the highest --

-- how many bytes a value has
abbrev pub bytes_in : Width → ℕ
bytes_in Byte = 1
bytes_in Word = 2
bytes_in Double = 4

-- what of a value of 32 bits fits into a width: its low 8 or 16 bits, or all
abbrev pub low_part : Width → ℕ → ℕ
low_part Byte value = value % 256
low_part Word value = value % 65536
low_part Double value = value

-- the value at a place of an area
abbrev pub area_value_at : Memory → ValuePlace → ℕ
area_value_at memory place = image.value_at memory.image place.area place.at_byte (bytes_in place.width)

abbrev pub with_area_value_at : Memory → ValuePlace → ℕ → Memory
with_area_value_at memory place value =
    record memory { image = pages.value_written place.area place.at_byte (bytes_in place.width) (low_part place.width value) memory.image }

-- the value at a place that was found
abbrev pub value_at : Memory → ValueOperand → ℕ
value_at memory (value_operands.Area place) = area_value_at memory place
value_at memory (value_operands.Local place) = local_value memory place.at_byte (bytes_in place.width)
value_at memory (value_operands.Data place) = 0

abbrev pub with_value_at : Memory → ValueOperand → ℕ → Memory
with_value_at memory (value_operands.Area place) value = with_area_value_at memory place value
with_value_at memory (value_operands.Local place) value =
    with_local_value memory place.at_byte (bytes_in place.width) (low_part place.width value)
with_value_at memory (value_operands.Data place) value = memory

-- the start --

-- at the start the areas are 0 and the data blocks have their first bytes, no timer and no counter was used, and no block has begun
abbrev pub start_memory : Program → Memory
start_memory program = record {
  image = laid program;
  timers = replicate 256 timers.fresh;
  counters = replicate 256 counters.fresh;
  registers = clear_registers;
  levels = [];
}
