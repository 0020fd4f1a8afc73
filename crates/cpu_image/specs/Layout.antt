-- The image as it is laid from the blocks of a program.
use Rattle.std.specs.Prelude.{ℕ, zero, suc, ◌+◌, ◌==◌, false, List, [], ◌∷◌, ◌++◌, Option, replicate}
use Rattle.std.specs.List.{find}
use Rattle.std.specs.Option.{option_map}
use Rattle.s7_base.specs.Blocks.{Data, Program}
use Rattle.s7_base.specs.Limits.{all_pages}
use Rattle.cpu_image.specs.Image.{Image}

-- the first bytes of the data block of a number, if it is loaded
abbrev pub first_bytes : List Data → ℕ → Option (List ℕ)
first_bytes blocks number = option_map (λ (block : Data). block.bytes) (find (λ block. block.number == number) blocks)

-- those of the numbers below n
unfoldable pub first_bytes_below : List Data → ℕ → List (Option (List ℕ))
first_bytes_below blocks zero = []
first_bytes_below blocks (suc n) = first_bytes_below blocks n ++ first_bytes blocks n ∷ []

-- at the start the areas are 0, each data block has its first bytes, and no page is marked
abbrev pub laid : Program → Image
laid program = record {
  inputs = replicate 64 0;
  outputs = replicate 64 0;
  bit_memory = replicate 1024 0;
  data_blocks = first_bytes_below program.data_blocks 256;
  marks = replicate (42 + all_pages program.data_blocks) false;
}
