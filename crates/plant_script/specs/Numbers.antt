-- Numbers as a script writes them.
use Rattle.std.specs.Prelude.{ℕ, ◌+◌, ◌-◌, ◌*◌, List, [], ◌∷◌, length, ◌==◌, ◌&&◌, not, Bool, true, false, Option, Some, None, nat_le, nat_lt, if◌then◌else◌}
use Rattle.std.specs.Str.{all_ascii_digits}
use Rattle.s7_events.specs.Optional.{◌>>=◌}
use Rattle.plant_script.specs.Words.{is_empty}

-- the value of what was read, followed by these digits
abbrev pub value_from : ℕ → List ℕ → ℕ
value_from n [] = n
value_from n (c ∷ cs) = value_from (n * 10 + (c - 48)) cs

-- the value of decimal digits, however many they are
unfoldable pub value_of : List ℕ → ℕ
value_of digits = value_from 0 digits

-- a decimal number: one digit or more
unfoldable pub is_number : List ℕ → Bool
is_number word = not (is_empty word) && all_ascii_digits word

-- the value of a decimal number that is at most this
unfoldable pub number_within : ℕ → List ℕ → Option ℕ
number_within most word = if is_number word && nat_le (value_of word) most then Some (value_of word) else None

-- the value of a hexadecimal digit: `0` to `9`, `A` to `F` or `a` to `f`
abbrev pub hex_digit : ℕ → Option ℕ
hex_digit digit =
    if nat_le 48 digit && nat_le digit 57 then Some (digit - 48)
    else if nat_le 65 digit && nat_le digit 70 then Some (digit - 55)
    else if nat_le 97 digit && nat_le digit 102 then Some (digit - 87)
    else None

-- the value of what was read, followed by these hexadecimal digits
abbrev pub hex_from : ℕ → List ℕ → Option ℕ
hex_from n [] = Some n
hex_from n (d ∷ ds) = hex_digit d >>= λ v. hex_from (n * 16 + v) ds

-- the value of exactly so many hexadecimal digits
unfoldable pub hex_of : ℕ → List ℕ → Option ℕ
hex_of count word = if length word == count then hex_from 0 word else None

-- the same digits without the zeros at their front
abbrev pub significant : List ℕ → List ℕ
significant [] = []
significant (d ∷ ds) = if d == 48 then significant ds else d ∷ ds

-- the first digit in which both differ is the lower one
abbrev pub comes_before : List ℕ → List ℕ → Bool
comes_before [] es = false
comes_before (d ∷ ds) [] = false
comes_before (d ∷ ds) (e ∷ es) = if d == e then comes_before ds es else nat_lt d e
