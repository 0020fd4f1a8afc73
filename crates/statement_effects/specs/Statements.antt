-- What is said of all statements.
use Rattle.std.specs.Prelude.{◌≡◌, ◌≤◌, ℕ, true, is_some}
use Rattle.s7_base.specs.declared.statement.Statement.{Statement}
use Rattle.s7_base.specs.Statements.{is_statement}
use Rattle.statement_effects.specs.Reading.{instruction_of}

-- each statement of the language means an instruction; a block has 256 bytes of local data at most
abbrev pub StatementsMean : Type 0
StatementsMean = (locals : ℕ) (s : Statement) → locals ≤ 256 → is_statement locals s ≡ true → is_some (instruction_of s) ≡ true
