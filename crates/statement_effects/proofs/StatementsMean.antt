-- Each statement of the language means an instruction.
use Rattle.std.proofs.Common.{◌≡◌, ◌≤◌, ℕ, zero, suc, Bool, true, List, [], ◌∷◌, refl}
use Rattle.std.specs.Prelude.{slice_get, is_some}
use Rattle.std.specs.List.{list_all}
use Rattle.std.proofs.lemmas.Bool.{and_parts}
use Rattle.s7_base.specs.declared.statement.Statement.{Statement}
use Rattle.instruction_set.specs.declared.table.InstructionRow.{InstructionRow}
use Rattle.instruction_set.specs.InstructionSet.{instruction_set}
use Rattle.instruction_set.specs.Rows.{row_of}
use Rattle.s7_base.specs.Statements.{is_of_row, is_statement}
use Rattle.statement_effects.specs.Reading.{read_row, instruction_of}
use Rattle.statement_effects.proofs.Operands.{takes_all, reads}

-- an operation takes each form of operand of its kind
abbrev row_takes : InstructionRow → Bool
row_takes row = takes_all row.operand row.operation

rows_take : list_all row_takes instruction_set ≡ true
rows_take = refl

found : (rows : List InstructionRow) → list_all row_takes rows ≡ true → (n locals : ℕ) (s : Statement) → locals ≤ 256 → is_of_row (slice_get rows n) locals s ≡ true
    → is_some (read_row (slice_get rows n) s) ≡ true
found [] each n locals s small allowed = absurd cc
found (row ∷ rows) each zero locals s small allowed =
    reads row.operand row.operation locals s (and_parts (row_takes row) (list_all row_takes rows) each).0 small allowed
found (row ∷ rows) each (suc n) locals s small allowed =
    found rows (and_parts (row_takes row) (list_all row_takes rows) each).1 n locals s small allowed

-- each statement of the language means an instruction
pub statements_mean : (locals : ℕ) (s : Statement) → locals ≤ 256 → is_statement locals s ≡ true → is_some (instruction_of s) ≡ true
unfolding row_of
statements_mean locals s small language = found instruction_set rows_take s.op locals s small language
