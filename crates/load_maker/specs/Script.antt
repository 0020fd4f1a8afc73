-- The script for a day of n moments.
use Rattle.std.specs.Prelude.{ℕ, ◌*◌, ◌-◌, ◌/◌, ◌%◌, ◌==◌, List, [], ◌∷◌, ◌++◌, if◌then◌else◌, codes}
use Rattle.std.specs.List.{flat_map, range_with_len}
use Rattle.std.specs.Fmt.{decimal}
use Rattle.load_maker.specs.Lines.{text_of, hex_byte}

-- one input byte and one output byte, which both sides reach
abbrev pub module_lines : List (List ℕ)
module_lines = codes "MODULE IN 0 1 SWITCHED" ∷ codes "MODULE OUT 0 1 SWITCHED" ∷ []

-- the input byte counts the hundreds of moments, modulo 256
abbrev pub input_lines : ℕ → List (List ℕ)
input_lines m = (codes "AT " ++ (decimal m ++ (codes " INPUT 0 " ++ hex_byte (m / 100 % 256)))) ∷ []

-- at each full thousand an alarm with its number, which is below 256, as eight hexadecimal digits
abbrev pub alarm_lines : ℕ → List (List ℕ)
alarm_lines m = if m % 1000 == 0 then (codes "AT " ++ (decimal m ++ (codes " ALARM 40 000000" ++ hex_byte (m / 1000)))) ∷ [] else []

-- half way, at a full hundred, side B is lost
abbrev pub loss_lines : ℕ → ℕ → List (List ℕ)
loss_lines n m = if m == 100 * (n / 200) then (codes "AT " ++ (decimal m ++ codes " FAIL B")) ∷ [] else []

-- what happens at a moment
abbrev pub moment_lines : ℕ → ℕ → List (List ℕ)
moment_lines n m = input_lines m ++ (alarm_lines m ++ loss_lines n m)

-- what happens at the k-th full hundred
abbrev pub hundred_lines : ℕ → ℕ → List (List ℕ)
hundred_lines n k = moment_lines n (100 * k)

-- what happens at each full hundred above 0 and below n
abbrev pub all_moment_lines : ℕ → List (List ℕ)
all_moment_lines n = flat_map (hundred_lines n) (range_with_len 1 ((n - 1) / 100))

abbrev pub end_lines : ℕ → List (List ℕ)
end_lines n = (codes "END " ++ decimal n) ∷ []

abbrev pub script_lines : ℕ → List (List ℕ)
script_lines n = module_lines ++ (all_moment_lines n ++ end_lines n)

abbrev pub script_text : ℕ → List ℕ
script_text n = text_of (script_lines n)
