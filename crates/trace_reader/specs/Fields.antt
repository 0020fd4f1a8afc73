-- The fields of a line: how they are written, and what stands at the front of a text.
use Rattle.std.specs.Prelude.{◌≡◌, ℕ, ◌+◌, ◌-◌, ◌*◌, ◌/◌, ◌%◌, ◌^◌, ◌<◌, ◌==◌, ◌≢◌, ◌&&◌, List, [], ◌∷◌, ◌++◌, length, Option, Some, None, nat_lt, nat_le, slice_index, if◌then◌else◌}
use Rattle.std.specs.Option.{option_map}
use Rattle.std.specs.Fmt.{decimal}
use Rattle.std.specs.Str.{bytes_eq}
use Rattle.std.specs.Char.{is_ascii_digit}

infixl 10 ◌>>=◌
abbrev pub ◌>>=◌ : {A B : Type 0} → Option A → (A → Option B) → Option B
None >>= f = None
(Some x) >>= f = f x

-- the first of two that is there
infixr 10 ◌or_else◌
abbrev pub ◌or_else◌ : {A : Type 0} → Option A → Option A → Option A
(Some x) or_else other = Some x
None or_else other = other

-- the text after a word that it begins with
abbrev pub after : List ℕ → List ℕ → Option (List ℕ)
after [] text = Some text
after (c ∷ word) [] = None
after (c ∷ word) (b ∷ text) = if b == c then after word text else None

-- a value and the text after its word
abbrev pub word_at : {A : Type 0} → List ℕ → A → List ℕ → Option (A × List ℕ)
word_at word value text = option_map (λ rest. (value, rest)) (after word text)

-- ---- numbers

-- the digits that a text begins with, and the text after them
abbrev pub digits_at : List ℕ → List ℕ × List ℕ
digits_at [] = ([], [])
digits_at (c ∷ text) = if is_ascii_digit c then (c ∷ (digits_at text).0, (digits_at text).1) else ([], c ∷ text)

-- there is a first byte, and it is no plus sign and no leading zero
abbrev pub StartsAsNumber : List ℕ → Type 0
StartsAsNumber digits =
    (0 < length digits) × (slice_index digits 0 ≢ 43) × (slice_index digits 0 ≡ 48 → length digits ≡ 1)

-- the value of digits, whatever the bytes are
abbrev pub value_from : ℕ → List ℕ → ℕ
value_from n [] = n
value_from n (c ∷ cs) = value_from (10 * n + (c - 48)) cs

-- the number below 2 ^ 32 whose decimal digits these are
abbrev pub number_of : List ℕ → Option ℕ
number_of digits =
    if bytes_eq (decimal (value_from 0 digits)) digits && nat_lt (value_from 0 digits) (2 ^ 32)
    then Some (value_from 0 digits) else None

-- a number that is at most this, without leading zeros
unfoldable pub number_at : ℕ → List ℕ → Option (ℕ × List ℕ)
number_at most text = do
  number ← number_of (digits_at text).0
  if nat_le number most then Some (number, (digits_at text).1) else None

-- ---- hexadecimal digits

-- an upper-case hexadecimal digit
abbrev pub hex_digit : ℕ → ℕ
hex_digit d = if nat_lt d 10 then 48 + d else 55 + d

-- a byte as two hexadecimal digits
abbrev pub hex_byte : ℕ → List ℕ
hex_byte b = hex_digit (b / 16) ∷ hex_digit (b % 16) ∷ []

-- two bytes, the higher first
abbrev pub hex_word : ℕ → List ℕ
hex_word w = hex_byte (w / 256) ++ hex_byte (w % 256)

-- four bytes, the highest first
abbrev pub hex_double : ℕ → List ℕ
hex_double d = hex_word (d / 65536) ++ hex_word (d % 65536)

-- the value of an upper-case hexadecimal digit
abbrev pub digit_value : ℕ → Option ℕ
digit_value c =
    if nat_le 48 c && nat_le c 57 then Some (c - 48)
    else if nat_le 65 c && nat_le c 70 then Some (c - 55)
    else None

unfoldable pub byte_at : List ℕ → Option (ℕ × List ℕ)
byte_at [] = None
byte_at (high ∷ []) = None
byte_at (high ∷ low ∷ text) = do
  h ← digit_value high
  l ← digit_value low
  Some (h * 16 + l, text)

unfoldable pub word_value_at : List ℕ → Option (ℕ × List ℕ)
word_value_at text = do
  high ← byte_at text
  low ← byte_at high.1
  Some (high.0 * 256 + low.0, low.1)

unfoldable pub double_at : List ℕ → Option (ℕ × List ℕ)
double_at text = do
  high ← word_value_at text
  low ← word_value_at high.1
  Some (high.0 * 65536 + low.0, low.1)
