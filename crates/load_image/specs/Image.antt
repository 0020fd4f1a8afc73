-- The load image of a program: a header, a directory entry for each block, and the bodies of the blocks, which follow
-- without gaps in the order of the directory. Numbers have the high byte first.
use Rattle.std.specs.Prelude.{◌≡◌, ℕ, ◌+◌, ◌*◌, ◌^◌, ◌<◌, List, [], ◌∷◌, ◌++◌, length, codes, All}
use Rattle.std.specs.List.{flat_map}
use Rattle.std.specs.Int.{w16, w32, to_be_bytes}
use Rattle.s7_base.specs.declared.statement.Statement.{Statement}
use Rattle.s7_base.specs.Blocks.{Code, Data, Program}
use Rattle.s7_base.specs.Limits.{kind_place, IsWellFormed}

-- a statement has 12 bytes: operation (2), area (1), bit (1), data block (2), 0 (2), value (4)
unfoldable pub statement_bytes : Statement → List ℕ
statement_bytes s =
    to_be_bytes w16 s.op ++ s.area ∷ s.bit ∷ [] ++ to_be_bytes w16 s.db ++ 0 ∷ 0 ∷ [] ++ to_be_bytes w32 s.value

-- the body of a code block: its statements
abbrev pub code_body : Code → List ℕ
code_body code = flat_map statement_bytes code.statements

-- the body of a data block: its first bytes
abbrev pub data_body : Data → List ℕ
data_body block = block.bytes

-- a directory entry has 16 bytes: kind (1), 0 (1), number (2), statements or bytes (4), bytes of temporary data (2),
-- 0 (2), the place in the image at which the body begins (4)
unfoldable pub entry : ℕ → ℕ → ℕ → ℕ → ℕ → List ℕ
entry kind number count temp offset =
    kind ∷ 0 ∷ [] ++ to_be_bytes w16 number ++ to_be_bytes w32 count ++ to_be_bytes w16 temp ++ 0 ∷ 0 ∷ []
    ++ to_be_bytes w32 offset

-- kinds are numbered OB 0, FB 1, FC 2, DB 3
abbrev pub code_entry : ℕ → Code → List ℕ
code_entry offset code = entry (kind_place code.kind) code.number (length code.statements) code.temp offset

abbrev pub data_entry : ℕ → Data → List ℕ
data_entry offset block = entry 3 block.number (length block.bytes) 0 offset

-- the entries of blocks whose bodies follow one another from this place on
abbrev pub entries : {X : Type 0} → (X → List ℕ) → (ℕ → X → List ℕ) → ℕ → List X → List ℕ
entries body entry_at offset [] = []
entries body entry_at offset (x ∷ xs) = entry_at offset x ++ entries body entry_at (offset + length (body x)) xs

abbrev pub code_entries : ℕ → List Code → List ℕ
code_entries offset codes = entries code_body code_entry offset codes

abbrev pub data_entries : ℕ → List Data → List ℕ
data_entries offset blocks = entries data_body data_entry offset blocks

-- the header has 16 bytes: S7H1, number of blocks (2), 0 (2), length of the whole image (4), 0 (4)
unfoldable pub header : ℕ → ℕ → List ℕ
header blocks whole =
    codes "S7H1" ++ to_be_bytes w16 blocks ++ 0 ∷ 0 ∷ [] ++ to_be_bytes w32 whole ++ 0 ∷ 0 ∷ 0 ∷ 0 ∷ []

abbrev pub block_count : Program → ℕ
block_count program = length program.codes + length program.data_blocks

-- the place of the first body, after the header and the directory
abbrev pub first_body : Program → ℕ
first_body program = 16 + 16 * block_count program

abbrev pub code_bodies : List Code → List ℕ
code_bodies codes = flat_map code_body codes

abbrev pub data_bodies : List Data → List ℕ
data_bodies blocks = flat_map data_body blocks

abbrev pub bodies : Program → List ℕ
bodies program = code_bodies program.codes ++ data_bodies program.data_blocks

abbrev pub directory : Program → List ℕ
directory program =
    code_entries (first_body program) program.codes
    ++ data_entries (first_body program + length (code_bodies program.codes)) program.data_blocks

-- the image of a program
abbrev pub image_of : Program → List ℕ
image_of program =
    header (block_count program) (first_body program + length (bodies program)) ++ directory program ++ bodies program

-- what fits the fields of the image --

pub record IsStoredStatement (s : Statement) : Type 0 where
  pub op : s.op < 2 ^ 16
  pub area : s.area < 2 ^ 8
  pub bit : s.bit < 2 ^ 8
  pub db : s.db < 2 ^ 16
  pub value : s.value < 2 ^ 32

pub record IsStoredCode (code : Code) : Type 0 where
  pub number : code.number < 2 ^ 8
  pub temp : code.temp < 2 ^ 16
  pub each : All IsStoredStatement code.statements

pub record IsStoredData (block : Data) : Type 0 where
  pub number : block.number < 2 ^ 8
  pub each : All (λ byte. byte < 2 ^ 8) block.bytes

-- the numbers of the program fit their fields
pub record IsStored (program : Program) : Type 0 where
  pub codes : All IsStoredCode program.codes
  pub data_blocks : All IsStoredData program.data_blocks

-- the bytes are the image of the program, which is well formed
pub record IsImage (program : Program) (bytes : List ℕ) : Type 0 where
  pub well_formed : IsWellFormed program
  pub stored : IsStored program
  pub image : image_of program ≡ bytes
