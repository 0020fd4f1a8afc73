-- Where the statements of a program lie in its image.
use Rattle.std.specs.Prelude.{ℕ, ◌+◌, ◌*◌, length, take}
use Rattle.s7_base.specs.Blocks.{Program}
use Rattle.load_image.specs.Image.{first_body, code_bodies}

-- the place of a statement by its number, from 0, in the code block at an index: 12 bytes a statement after the block's offset
abbrev pub statement_place : Program → ℕ → ℕ → ℕ
statement_place program index number = first_body program + length (code_bodies (take index program.codes)) + 12 * number
