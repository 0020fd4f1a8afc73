-- Digits of a base, between which one `_` at a time may stand.
use Rattle.std.specs.Prelude.{ℕ, List, [], ◌∷◌, count_by, ◌==◌, ◌&&◌, not, Bool, false, true, nat_lt, ◌+◌, ◌-◌, ◌*◌, if◌then◌else◌}
use Rattle.std.specs.Char.{is_ascii_digit, is_ascii_alphabetic, to_ascii_uppercase}
use Rattle.stl_lex.specs.declared.bytes.ByteClass.TheVariants as classes
use Rattle.stl_lex.specs.Bytes.{front_length}

-- how many digits and `_` stand at the front
abbrev pub number_length : List ℕ → ℕ
number_length bytes = front_length classes.Number bytes

-- what a byte is worth as a digit; 36, which no base here has, where it is none
abbrev pub digit : ℕ → ℕ
digit b = if is_ascii_digit b then b - 48 else (if is_ascii_alphabetic b then to_ascii_uppercase b - 55 else 36)

-- a digit of a base
abbrev pub is_digit : ℕ → ℕ → Bool
is_digit base b = nat_lt (digit b) base

-- how digits go on: by a digit anywhere, by `_` or the end only behind a digit
abbrev pub goes_on : Bool → ℕ → List ℕ → Bool
goes_on behind_digit base [] = behind_digit
goes_on behind_digit base (b ∷ bs) =
    if b == 95 then behind_digit && goes_on false base bs else is_digit base b && goes_on true base bs

-- one digit or more, between which one `_` at a time stands
abbrev pub is_numeral : ℕ → List ℕ → Bool
is_numeral base digits = goes_on false base digits

-- the value with one more byte; `_` adds nothing
abbrev pub and_byte : ℕ → ℕ → ℕ → ℕ
and_byte base value b = if b == 95 then value else value * base + digit b

-- the value of what was read, followed by these bytes
abbrev pub value_from : ℕ → ℕ → List ℕ → ℕ
value_from base value [] = value
value_from base value (b ∷ bs) = value_from base (and_byte base value b) bs

-- the value of a numeral
abbrev pub value_of : ℕ → List ℕ → ℕ
value_of base digits = value_from base 0 digits

-- how many digits there are, `_` not counted
abbrev pub digit_count : List ℕ → ℕ
digit_count digits = count_by (λ b. not (b == 95)) digits
