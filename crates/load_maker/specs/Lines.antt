-- Lines, and what stands in them.
use Rattle.std.specs.Prelude.{ℕ, ◌/◌, ◌%◌, true, List, ◌++◌, codes}
use Rattle.std.specs.List.{flat_map}
use Rattle.std.specs.Fmt.{digits}

-- a line with its end
abbrev pub ended : List ℕ → List ℕ
ended line = line ++ codes "\n"

-- the text of lines
abbrev pub text_of : List (List ℕ) → List ℕ
text_of lines = flat_map ended lines

-- a byte as two upper-case hexadecimal digits
abbrev pub hex_byte : ℕ → List ℕ
hex_byte b = digits 16 true (b / 16) ++ digits 16 true (b % 16)
