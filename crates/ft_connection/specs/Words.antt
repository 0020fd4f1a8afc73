-- The lines of a file, the words of a line, and the numbers that words spell.
use Rattle.std.specs.Prelude.{ℕ, zero, suc, ◌+◌, ◌-◌, ◌*◌, ◌==◌, ◌&&◌, ◌||◌, not, Bool, min, List, [], ◌∷◌, length, take, drop, slice_index, position, unwrap_or, Option, Some, None, nat_le, if◌then◌else◌}
use Rattle.std.specs.Option.{option_map}

infixl 10 ◌>>=◌
abbrev pub ◌>>=◌ : {A B : Type 0} → Option A → (A → Option B) → Option B
None >>= f = None
(Some x) >>= f = f x

-- how many blanks stand first
abbrev pub blanks : List ℕ → ℕ
blanks text = unwrap_or (position (λ b. not (b == 32)) text) (length text)

-- how many bytes stand before the first blank
abbrev pub word_length : List ℕ → ℕ
word_length text = unwrap_or (position (λ b. b == 32) text) (length text)

-- the first word of a text, empty where it has none
abbrev pub first_word : List ℕ → List ℕ
first_word text = take (word_length (drop (blanks text) text)) (drop (blanks text) text)

-- what stands after it
abbrev pub after_word : List ℕ → List ℕ
after_word text = drop (word_length (drop (blanks text) text)) (drop (blanks text) text)

-- the word of a text with this number, counted from 0, empty where the text has no more words
abbrev pub word : ℕ → List ℕ → List ℕ
word zero text = first_word text
word (suc n) text = word n (after_word text)

-- a line without words, or whose first word begins with `#`
abbrev pub is_skipped : List ℕ → Bool
is_skipped text = length (first_word text) == 0 || slice_index (first_word text) 0 == 35

-- a number that was read, with decimal digits after it
abbrev pub decimal_value : ℕ → List ℕ → Option ℕ
decimal_value n [] = Some n
decimal_value n (c ∷ cs) = if nat_le 48 c && nat_le c 57 then decimal_value (10 * n + (c - 48)) cs else None

-- a number of a frame or an acknowledgement counts as 4,294,967,295 from there on
abbrev pub capped : ℕ → ℕ
capped n = min n 4294967295

-- one or more decimal digits
abbrev pub number_spelled : List ℕ → Option ℕ
number_spelled digits = if length digits == 0 then None else option_map capped (decimal_value 0 digits)

-- a hexadecimal digit, in upper or lower case
abbrev pub hex_digit : ℕ → Option ℕ
hex_digit digit =
    if nat_le 48 digit && nat_le digit 57 then Some (digit - 48)
    else if nat_le 65 digit && nat_le digit 70 then Some (digit - 55)
    else if nat_le 97 digit && nat_le digit 102 then Some (digit - 87)
    else None

-- a number that was read, with hexadecimal digits after it
abbrev pub hex_value : ℕ → List ℕ → Option ℕ
hex_value n [] = Some n
hex_value n (c ∷ cs) = hex_digit c >>= λ digit. hex_value (16 * n + digit) cs

-- a job: eight hexadecimal digits
abbrev pub job_spelled : List ℕ → Option ℕ
job_spelled digits = if length digits == 8 then hex_value 0 digits else None
