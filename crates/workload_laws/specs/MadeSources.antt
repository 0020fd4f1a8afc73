-- A made source is loaded as the program that was meant.
use Rattle.std.specs.Prelude.{◌≡◌, ℕ, ◌≤◌, ◌/◌, List, [], ◌∷◌, map, Ok}
use Rattle.std.specs.List.{range_with_len}
use Rattle.instruction_set.specs.declared.operands.OperandArea.{OperandArea}
use Rattle.instruction_set.specs.declared.operands.OperandArea.TheVariants.{Nothing, Inputs, Outputs, Memory, Word}
use Rattle.instruction_set.specs.Areas.{area_number}
use Rattle.s7_base.specs.declared.statement.Statement.{Statement}
use Rattle.s7_base.specs.declared.blocks.CodeKind.TheVariants.{Ob, Fc}
use Rattle.s7_base.specs.Blocks.{Code, Program}
use Rattle.block_loader.specs.Load.{meaning_of}
use Rattle.load_maker.specs.Source.{source_text}

-- an operation, by its place in the instruction set, with an operand
abbrev pub operation : ℕ → OperandArea → ℕ → ℕ → Statement
operation op area unit value = record { op = op; area = area_number area; bit = unit; db = 0; value = value }

-- L and T; the units 8 and 9 are a byte and a word, a number has none
abbrev pub load : OperandArea → ℕ → ℕ → Statement
load area unit value = operation 27 area unit value

abbrev pub transfer : OperandArea → ℕ → ℕ → Statement
transfer area unit value = operation 28 area unit value

-- +I
abbrev pub add : Statement
add = operation 40 Nothing 0 0

-- the word of memory at this byte is counted up
abbrev pub count : ℕ → List Statement
count at_byte = load Memory 9 at_byte ∷ load Word 0 1 ∷ add ∷ transfer Memory 9 at_byte ∷ []

-- OB1: the input byte goes to the output byte, and MW 0 counts the cycles
abbrev pub main_code : Code
main_code = record { kind = Ob; number = 1; temp = 0; statements = load Inputs 8 0 ∷ transfer Outputs 8 0 ∷ count 0 }

-- OB40: MW 2 counts the alarms
abbrev pub alarm_code : Code
alarm_code = record { kind = Ob; number = 40; temp = 0; statements = count 2 }

-- function i, which loads its own number
abbrev pub function_code : ℕ → Code
function_code i = record { kind = Fc; number = i; temp = 0; statements = load Word 0 i ∷ [] }

-- with a function for each full thousand of moments
abbrev pub made_program : ℕ → Program
made_program n = record { codes = main_code ∷ alarm_code ∷ map function_code (range_with_len 1 (n / 1000)); data_blocks = [] }

abbrev pub MadeSourcesAreAccepted : Type 0
MadeSourcesAreAccepted = (n : ℕ) → 1000 ≤ n → n ≤ 100000 → meaning_of (source_text n) ≡ Ok (made_program n)
