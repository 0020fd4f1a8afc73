-- The classes of bytes of a source text.
use Rattle.std.specs.Prelude.{codes, ℕ, ◌-◌, ◌++◌, List, length, replicate, take, ◌==◌, ◌&&◌, ◌||◌, not, Bool, nat_le}
use Rattle.std.specs.List.{prefix_len, list_any}
use Rattle.std.specs.Str.{str_eq_ignore_ascii_case}
use Rattle.std.specs.Char.{is_ascii_digit, is_ascii_alphanumeric}
use Rattle.stl_lex.specs.declared.bytes.ByteClass.{ByteClass}
use Rattle.stl_lex.specs.declared.bytes.ByteClass.TheVariants.{Blank, Run, Number, Character, Undigit, Line, Inside, Letter}

-- space and tab
abbrev pub is_blank : ℕ → Bool
is_blank b = b == 32 || b == 9

-- letters, digits, `_` and `#`
abbrev pub is_run_byte : ℕ → Bool
is_run_byte b = is_ascii_alphanumeric b || b == 95 || b == 35

-- digits and `_`
abbrev pub is_number_byte : ℕ → Bool
is_number_byte b = is_ascii_digit b || b == 95

-- what may stand between quotes: 32 to 126 except the quote
abbrev pub is_character : ℕ → Bool
is_character b = nat_le 32 b && nat_le b 126 && not (b == 39)

-- `+` and `-`
abbrev pub is_plus_or_minus : ℕ → Bool
is_plus_or_minus b = b == 43 || b == 45

-- `:=` `..` `==` `<>` `<=` `>=`
abbrev pub is_double_sign : ℕ → ℕ → Bool
is_double_sign a b =
    (b == 61 && (a == 58 || a == 61 || a == 60 || a == 62)) || (a == 46 && b == 46) || (a == 60 && b == 62)

-- the signs of one byte
abbrev pub is_sign : ℕ → Bool
is_sign b = list_any (λ sign. sign == b) (codes "=<>+-*/();:,.[]\"")

-- what a class of bytes has in it
abbrev pub is_of : ByteClass → ℕ → Bool
is_of Blank b = is_blank b
is_of Run b = is_run_byte b
is_of Number b = is_number_byte b
is_of Character b = is_character b
is_of Undigit b = not (is_ascii_digit b)
is_of Line b = not (b == 10)
is_of Inside b = not (b == 125 || b == 10)
is_of Letter b = not (b == 0)

-- how many bytes from the front on are of a class
abbrev pub front_length : ByteClass → List ℕ → ℕ
front_length class bytes = prefix_len (is_of class) bytes

-- these letters, large or small, are the word
abbrev pub spells : List ℕ → List ℕ → Bool
spells letters word = str_eq_ignore_ascii_case letters word

-- the bytes begin with these letters, large or small
abbrev pub begins : List ℕ → List ℕ → Bool
begins letters bytes = spells letters (take (length letters) bytes)

-- letters in a field of so many bytes: the bytes behind them are 0
abbrev pub in_field : ℕ → List ℕ → List ℕ
in_field size letters = letters ++ replicate (size - length letters) 0

-- the letters of a field, without the zeros that fill it up
abbrev pub letters_of : List ℕ → List ℕ
letters_of filled = take (front_length Letter filled) filled
