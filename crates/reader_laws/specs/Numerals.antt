-- How numbers are spelled in digits.
use Rattle.std.specs.Prelude.{◌≡◌, ◌≤◌, ◌+◌, ◌*◌, ℕ, List, [], ◌∷◌, ◌++◌, true}
use Rattle.stl_lex.specs.Numerals.{digit, is_digit, is_numeral, value_of}

-- The bytes are the number in digits of the base: one digit, or more, each of which follows the digit before it or the
-- one `_` behind that.
pub data IsNumeral (base : ℕ) : ℕ → List ℕ → Type 0 where
  one_digit : (b : ℕ) → is_digit base b ≡ true → IsNumeral base (digit b) (b ∷ [])
  next_digit : (n b : ℕ) (bytes : List ℕ) → IsNumeral base n bytes → is_digit base b ≡ true → IsNumeral base (n * base + digit b) (bytes ++ b ∷ [])
  behind_line : (n b : ℕ) (bytes : List ℕ) → IsNumeral base n bytes → is_digit base b ≡ true → IsNumeral base (n * base + digit b) (bytes ++ 95 ∷ b ∷ [])

-- what is read as a number is spelled so; `_` is no digit of a base up to 36
abbrev pub NumeralsReadAreSpelled : Type 0
NumeralsReadAreSpelled = (base : ℕ) (bytes : List ℕ) → base ≤ 36 → is_numeral base bytes ≡ true → IsNumeral base (value_of base bytes) bytes

-- what is spelled as a number is read as it and as no other
abbrev pub NumeralsSpelledAreRead : Type 0
NumeralsSpelledAreRead = (base n : ℕ) (bytes : List ℕ) → base ≤ 36 → IsNumeral base n bytes → (is_numeral base bytes ≡ true) × (value_of base bytes ≡ n)
