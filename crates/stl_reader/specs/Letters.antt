-- The entries of the instruction set by the first letters of their mnemonics.
use Rattle.std.specs.Prelude.{ℕ, ◌+◌, ◌%◌, ◌==◌, List, [], ◌∷◌, ◌++◌, Bool, false, Option, Some, None, if◌then◌else◌, slice_index, slice_get}
use Rattle.instruction_set.specs.declared.table.InstructionRow.{InstructionRow}
use Rattle.instruction_set.specs.InstructionSet.{instruction_set}

-- the number of an element that passes the test
abbrev pub number_where : {A : Type 0} → (A → Bool) → ℕ → A → List ℕ
number_where test n x = if test x then n ∷ [] else []

-- the numbers of the elements that pass the test, in order; the first element has the number n
unfoldable pub numbers_where : {A : Type 0} → (A → Bool) → ℕ → List A → List ℕ
numbers_where test n [] = []
numbers_where test n (x ∷ xs) = number_where test n x ++ numbers_where test (n + 1) xs

-- an element is there, and passes the test
abbrev pub passes : {A : Type 0} → (A → Bool) → Option A → Bool
passes test None = false
passes test (Some x) = test x

-- the element of a number, where there is a number
abbrev pub read_at : {A : Type 0} → List A → Option ℕ → Option A
read_at xs None = None
read_at xs (Some n) = slice_get xs n

-- two letters are alike where their last five bits are, as those of a large letter and its small one
abbrev pub are_alike : ℕ → ℕ → Bool
are_alike a b = (a % 32) == (b % 32)

-- the mnemonic of an entry begins with a letter that is like this
abbrev pub begins_like : ℕ → InstructionRow → Bool
begins_like letter row = are_alike (slice_index row.mnemonic 0) letter

-- the numbers of these entries, in rising order
unfoldable pub numbers_like : ℕ → List ℕ
numbers_like letter = numbers_where (begins_like letter) 0 instruction_set
