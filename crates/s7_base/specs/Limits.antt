-- What a well-formed program is.
use Rattle.std.specs.Prelude.{◌≡◌, ℕ, ◌+◌, ◌/◌, ◌%◌, ◌≤◌, ◌&&◌, ◌||◌, Bool, true, max, nat_lt, nat_le, List, [], ◌∷◌, length, All, IsTrue, IsSome}
use Rattle.std.specs.List.{sum_by}
use Rattle.s7_base.specs.declared.blocks.CodeKind.{CodeKind}
use Rattle.s7_base.specs.declared.blocks.CodeKind.TheVariants.{Ob, Fb, Fc}
use Rattle.s7_events.specs.Priorities.{is_ob}
use Rattle.s7_base.specs.Statements.{is_statement, all_land}
use Rattle.s7_base.specs.Blocks.{Code, Data, Program, same_kind, code_of}

-- the numbers that a block of a kind may have
abbrev pub has_number : CodeKind → ℕ → Bool
has_number Ob number = is_ob number
has_number Fb number = nat_le number 255
has_number Fc number = nat_le number 255

-- the bytes of local data that the statements see: an organisation block has its start information in any case
abbrev pub locals_of : CodeKind → ℕ → ℕ
locals_of Ob temp = max temp 20
locals_of Fb temp = temp
locals_of Fc temp = temp

-- a code block within the limits, whose statements are of the language and whose jumps land
pub record IsCode (code : Code) : Type 0 where
  pub number : IsTrue (has_number code.kind code.number)
  pub temp_even : code.temp % 2 ≡ 0
  pub temp_small : code.temp ≤ 256
  pub few : length code.statements ≤ 4000
  pub each : All (λ s. IsTrue (is_statement (locals_of code.kind code.temp) s)) code.statements
  pub jumps : IsTrue (all_land 0 code.statements)

-- a data block within the limits
pub record IsData (block : Data) : Type 0 where
  pub number : 1 ≤ block.number
  pub last_number : block.number ≤ 255
  pub even : length block.bytes % 2 ≡ 0
  pub small : length block.bytes ≤ 8192

-- the order of kinds: organisation blocks, function blocks, functions
abbrev pub kind_place : CodeKind → ℕ
kind_place Ob = 0
kind_place Fb = 1
kind_place Fc = 2

abbrev pub is_before : Code → Code → Bool
is_before a b = nat_lt (kind_place a.kind) (kind_place b.kind) || (same_kind a.kind b.kind && nat_lt a.number b.number)

abbrev pub is_before_first : Code → List Code → Bool
is_before_first code [] = true
is_before_first code (next ∷ after) = is_before code next

-- kinds rise, and numbers in a kind
abbrev pub codes_rise : List Code → Bool
codes_rise [] = true
codes_rise (code ∷ after) = is_before_first code after && codes_rise after

abbrev pub is_below_first : Data → List Data → Bool
is_below_first block [] = true
is_below_first block (next ∷ after) = nat_lt block.number next.number

-- the numbers of data blocks rise
abbrev pub data_rise : List Data → Bool
data_rise [] = true
data_rise (block ∷ after) = is_below_first block after && data_rise after

-- a data block takes whole pages of 256 bytes
abbrev pub pages : Data → ℕ
pages block = (length block.bytes + 255) / 256

abbrev pub all_statements : List Code → ℕ
all_statements codes = sum_by (λ code. length code.statements) codes

abbrev pub all_bytes : List Data → ℕ
all_bytes blocks = sum_by (λ block. length block.bytes) blocks

abbrev pub all_pages : List Data → ℕ
all_pages blocks = sum_by pages blocks

-- code blocks in order, each within its limits, and all of them together within theirs
pub record AreCodes (codes : List Code) : Type 0 where
  pub rise : IsTrue (codes_rise codes)
  pub each : All IsCode codes
  pub few_statements : all_statements codes ≤ 12000

-- data blocks in order, each within its limits, and all of them together within theirs
pub record AreData (blocks : List Data) : Type 0 where
  pub rise : IsTrue (data_rise blocks)
  pub each : All IsData blocks
  pub few_bytes : all_bytes blocks ≤ 32768
  pub few_pages : all_pages blocks ≤ 256

-- OB1 is there, and the blocks keep the rules
pub record IsWellFormed (program : Program) : Type 0 where
  pub main : IsSome (code_of program Ob 1)
  pub few_blocks : length program.codes + length program.data_blocks ≤ 256
  pub codes : AreCodes program.codes
  pub data_blocks : AreData program.data_blocks
