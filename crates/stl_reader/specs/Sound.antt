-- What holds of each body that is read.
use Rattle.std.specs.Prelude.{◌≡◌, ◌≤◌, ℕ, List, [], ◌∷◌, ◌++◌, ◌+◌, length, map, All, IsTrue, if◌then◌else◌}
use Rattle.instruction_set.specs.declared.operands.OperandArea.TheVariants.{Target}
use Rattle.s7_base.specs.Operands.{is_in}
use Rattle.s7_base.specs.Statements.{is_statement}
use Rattle.stl_reader.specs.declared.items.BodyStatement.{BodyStatement}
use Rattle.stl_reader.specs.Contents.{Contents}

-- the number of a statement that is a jump
abbrev pub jump_place : ℕ → BodyStatement → List ℕ
jump_place n s = if is_in Target s.statement then n ∷ [] else []

-- the numbers of the statements that are jumps; the first statement has the number n
abbrev pub jump_places : ℕ → List BodyStatement → List ℕ
jump_places n [] = []
jump_places n (s ∷ ss) = jump_place n s ++ jump_places (n + 1) ss

-- the statements are of the language, in a block with so many bytes of local data; each label names one of them or
-- the end; and the jumps are those statements whose operand is a target, in order
pub record IsSound (locals : ℕ) (b : Contents) : Type 0 where
  pub language : All (λ s. IsTrue (is_statement locals s.statement)) b.statements
  pub labels : All (λ l. l.statement ≤ length b.statements) b.labels
  pub jumps : map (λ j. j.statement) b.jumps ≡ jump_places 0 b.statements
