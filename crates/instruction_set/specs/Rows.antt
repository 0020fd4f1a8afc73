-- The instruction set by its numbers.
use Rattle.std.specs.Prelude.{ℕ, Option, slice_get}
use Rattle.instruction_set.specs.declared.table.InstructionRow.{InstructionRow}
use Rattle.instruction_set.specs.InstructionSet.{instruction_set}

-- the row of a number is the one at this place
unfoldable pub row_of : ℕ → Option InstructionRow
row_of number = slice_get instruction_set number
