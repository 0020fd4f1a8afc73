-- Runs of letters, digits, `_` and `#`: local names, words, numbers, real parts and literals.
use Rattle.std.specs.Prelude.{ℕ, List, length, take, drop, slice_index, ◌==◌, ◌&&◌, ◌||◌, Bool, ◌+◌, if◌then◌else◌, codes}
use Rattle.std.specs.List.{list_any}
use Rattle.std.specs.Char.{is_ascii_digit}
use Rattle.stl_lex.specs.declared.bytes.ByteClass.TheVariants as classes
use Rattle.stl_lex.specs.declared.piece.TokenKind.TheVariants as kinds
use Rattle.stl_lex.specs.declared.piece.Form.{Form}
use Rattle.stl_lex.specs.declared.piece.Form.TheVariants.{Lexeme}
use Rattle.stl_lex.specs.Bytes.{front_length, is_plus_or_minus, spells, begins}
use Rattle.stl_lex.specs.Numerals.{number_length, is_numeral}
use Rattle.stl_lex.specs.Literals.{numeral_form, unsigned, literal_form}

-- digits and E
abbrev pub is_mantissa : List ℕ → Bool
is_mantissa head = is_numeral 10 (take (number_length head) head) && spells (codes "E") (drop (number_length head) head)

-- a sign belongs to the run before it: behind `L#` and `T#`, and between a mantissa and a digit
abbrev pub takes_sign : List ℕ → List ℕ → Bool
takes_sign head rest =
    is_plus_or_minus (slice_index rest 0)
    && (spells (codes "L#") head || spells (codes "T#") head || (is_mantissa head && is_ascii_digit (slice_index rest 1)))

-- how long a run is, with the sign that belongs to it and what stands behind that sign
abbrev pub run_length : List ℕ → ℕ
run_length bytes =
    let n = front_length classes.Run bytes in
    let rest = drop n bytes in
    if takes_sign (take n bytes) rest then n + 1 + front_length classes.Run (drop 1 rest) else n

-- nothing, or digits with or without a sign
abbrev pub is_exponent : List ℕ → Bool
is_exponent bytes = length bytes == 0 || is_numeral 10 (unsigned bytes)

-- digits, E and an exponent
abbrev pub is_real_part : List ℕ → Bool
is_real_part run =
    let rest = drop (number_length run) run in
    is_numeral 10 (take (number_length run) run) && begins (codes "E") rest && is_exponent (drop 1 rest)

-- what begins with a digit
abbrev pub digits_form : List ℕ → Form
digits_form run = if is_real_part run then Lexeme kinds.RealPart else numeral_form kinds.Number 10 4294967295 run

-- what a run is: by its first byte, and by whether `#` stands inside
unfoldable pub run_form : List ℕ → Form
run_form run =
    if slice_index run 0 == 35 then Lexeme kinds.Local
    else (if list_any (λ b. b == 35) run then literal_form run
    else (if is_ascii_digit (slice_index run 0) then digits_form run
    else Lexeme kinds.Word))
