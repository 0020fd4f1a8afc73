-- Which stored statements are of the language, and which jumps land.
use Rattle.std.specs.Prelude.{ℕ, ◌+◌, ◌-◌, ◌&&◌, ◌||◌, Bool, true, false, not, nat_le, List, [], ◌∷◌, length, take, Option, Some, None}
use Rattle.std.specs.List.{list_all}
use Rattle.s7_base.specs.declared.statement.Statement.{Statement}
use Rattle.instruction_set.specs.declared.table.InstructionRow.{InstructionRow}
use Rattle.instruction_set.specs.declared.operation.Operation.{Operation}
use Rattle.instruction_set.specs.declared.operation.Operation.TheVariants as operations
use Rattle.instruction_set.specs.declared.operation.Jump.TheVariants.{Ju}
use Rattle.instruction_set.specs.declared.operands.OperandArea.TheVariants.{Target}
use Rattle.instruction_set.specs.Rows.{row_of}
use Rattle.s7_base.specs.Operands.{allows, is_in}

-- the operand is one that the row allows, in a block with so many bytes of local data
abbrev pub is_of_row : Option InstructionRow → ℕ → Statement → Bool
is_of_row None locals s = false
is_of_row (Some row) locals s = allows row.operand locals s

-- the statement is one of the language
abbrev pub is_statement : ℕ → Statement → Bool
is_statement locals s = is_of_row (row_of s.op) locals s

abbrev pub is_ju_operation : Operation → Bool
is_ju_operation (operations.Jump Ju) = true
is_ju_operation _ = false

abbrev pub is_jl_operation : Operation → Bool
is_jl_operation operations.JumpList = true
is_jl_operation _ = false

abbrev pub is_ju_row : Option InstructionRow → Bool
is_ju_row None = false
is_ju_row (Some row) = is_ju_operation row.operation

abbrev pub is_jl_row : Option InstructionRow → Bool
is_jl_row None = false
is_jl_row (Some row) = is_jl_operation row.operation

abbrev pub is_ju : Statement → Bool
is_ju s = is_ju_row (row_of s.op)

abbrev pub is_jl : Statement → Bool
is_jl s = is_jl_row (row_of s.op)

-- The target of the jump at a place is a statement of the block, or the block's end, at most 2,000 statements away.
-- `after` are the statements that follow the jump.
abbrev pub is_target : ℕ → ℕ → List Statement → Bool
is_target at target after =
    nat_le target (at + 1 + length after) && nat_le at (target + 2000) && nat_le target (at + 2000)

-- a list of 1 to 255 JU, and nothing else, stands between the JL at a place and its target
abbrev pub is_list : ℕ → ℕ → List Statement → Bool
is_list at target after =
    nat_le (at + 2) target && nat_le target (at + 256) && list_all is_ju (take (target - (at + 1)) after)

-- where the statement is a jump it lands
abbrev pub lands : ℕ → Statement → List Statement → Bool
lands at s after =
    not (is_in Target s) || (is_target at s.value after && (not (is_jl s) || is_list at s.value after))

-- each jump lands; the first statement has this number
abbrev pub all_land : ℕ → List Statement → Bool
all_land at [] = true
all_land at (s ∷ after) = lands at s after && all_land (at + 1) after
