-- The source for a day of n moments.
use Rattle.std.specs.Prelude.{ℕ, ◌/◌, List, [], ◌∷◌, ◌++◌, codes}
use Rattle.std.specs.List.{flat_map, range_with_len}
use Rattle.std.specs.Fmt.{decimal}
use Rattle.load_maker.specs.Lines.{text_of}

-- OB1: the input byte goes to the output byte, and MW 0 counts the cycles
abbrev pub main_lines : List (List ℕ)
main_lines =
    codes "ORGANIZATION_BLOCK OB 1"
    ∷ codes "BEGIN"
    ∷ codes "L IB 0;"
    ∷ codes "T QB 0;"
    ∷ codes "L MW 0;"
    ∷ codes "L 1;"
    ∷ codes "+I;"
    ∷ codes "T MW 0;"
    ∷ codes "END_ORGANIZATION_BLOCK"
    ∷ []

-- OB40: MW 2 counts the alarms
abbrev pub alarm_ob_lines : List (List ℕ)
alarm_ob_lines =
    codes "ORGANIZATION_BLOCK OB 40"
    ∷ codes "BEGIN"
    ∷ codes "L MW 2;"
    ∷ codes "L 1;"
    ∷ codes "+I;"
    ∷ codes "T MW 2;"
    ∷ codes "END_ORGANIZATION_BLOCK"
    ∷ []

-- function i, which loads its own number
abbrev pub function_lines : ℕ → List (List ℕ)
function_lines i =
    (codes "FUNCTION FC " ++ (decimal i ++ codes " : VOID"))
    ∷ codes "BEGIN"
    ∷ (codes "L " ++ (decimal i ++ codes ";"))
    ∷ codes "END_FUNCTION"
    ∷ []

-- OB1 and OB40
abbrev pub organization_block_lines : List (List ℕ)
organization_block_lines = main_lines ++ alarm_ob_lines

-- a function for each full thousand of moments
abbrev pub all_function_lines : ℕ → List (List ℕ)
all_function_lines n = flat_map function_lines (range_with_len 1 (n / 1000))

abbrev pub source_lines : ℕ → List (List ℕ)
source_lines n = organization_block_lines ++ all_function_lines n

abbrev pub source_text : ℕ → List ℕ
source_text n = text_of (source_lines n)
