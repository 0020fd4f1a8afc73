-- The text of a program's blocks.
use Rattle.std.specs.Prelude.{ℕ, ◌+◌, List, ◌++◌, length, codes}
use Rattle.std.specs.List.{flat_map}
use Rattle.std.specs.Fmt.{decimal}
use Rattle.s7_base.specs.declared.blocks.CodeKind.{CodeKind}
use Rattle.s7_base.specs.declared.blocks.CodeKind.TheVariants.{Ob, Fb, Fc}
use Rattle.s7_base.specs.Blocks.{Code, Data, Program}

-- how a kind of code block is written
abbrev pub kind_word : CodeKind → List ℕ
kind_word Ob = codes "OB "
kind_word Fb = codes "FB "
kind_word Fc = codes "FC "

-- a block: its kind, its number and its size
abbrev pub block_line : List ℕ → ℕ → ℕ → List ℕ
block_line word number size = word ++ (decimal number ++ (codes " " ++ (decimal size ++ codes "\n")))

-- a code block, with the number of its statements
abbrev pub code_line : Code → List ℕ
code_line code = block_line (kind_word code.kind) code.number (length code.statements)

-- a data block, with the number of its bytes
abbrev pub data_line : Data → List ℕ
data_line block = block_line (codes "DB ") block.number (length block.bytes)

-- the last line, with the number of all blocks
abbrev pub count_line : Program → List ℕ
count_line program = codes "OK " ++ (decimal (length program.codes + length program.data_blocks) ++ codes "\n")

-- the whole text: the code blocks, the data blocks and how many they are
abbrev pub load_text : Program → List ℕ
load_text program = flat_map code_line program.codes ++ (flat_map data_line program.data_blocks ++ count_line program)
