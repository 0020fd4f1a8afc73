-- What is written is read back: numbers, values and images.
use Rattle.std.proofs.Common.{◌≡◌, ℕ, zero, suc, ◌+◌, ◌*◌, ◌/◌, ◌%◌, ◌<◌, ◌≤◌, Bool, true, false, ◌&&◌, cond, eqb, leb, eq-eqb, List, [], ◌∷◌, ◌++◌, length, Some, None, refl, sym, ap, ◌∙◌, arith, append_assoc}
use Rattle.std.specs.Prelude.{not, codes}
use Rattle.std.specs.Char.{is_ascii_digit}
use Rattle.std.specs.Str.{all_ascii_digits}
use Rattle.std.specs.Fmt.{decimal}
use Rattle.std.proofs.lemmas.Bool.{and_parts, le-leb}
use Rattle.std.proofs.lemmas.Fmt.{digits_decimal, decimal_digit}
use Rattle.trace_reader.specs.Fields.{digits_at, number_of, number_at, hex_digit, hex_byte, hex_word, hex_double, digit_value, byte_at, word_value_at, double_at}
use Rattle.trace_reader.specs.Images.{cell, cell_text, cells_text, is_dark, image, cell_at, byte_or_dark, byte_of, cells_from, lit_or_dash, image_at}
use Rattle.trace_reader.specs.Ranges.{AreBytes, IsImage}
use Rattle.trace_reader.proofs.Cells.{dark_cells}
use Rattle.trace_reader.proofs.Numbers.{own, number_again}

-- a text that begins with no digit and with no comma
abbrev pub breaks_off : List ℕ → Bool
breaks_off [] = true
breaks_off (c ∷ text) = not (is_ascii_digit c) && not (eqb c 44)

not_true : (b : Bool) → not b ≡ true → b ≡ false
not_true true e = absurd cc
not_true false e = refl

digits_split : (ds rest : List ℕ) → all_ascii_digits ds ≡ true → breaks_off rest ≡ true → digits_at (ds ++ rest) ≡ (ds, rest)
digits_split [] [] d e = refl
digits_split [] (c ∷ rest) d e =
    let parts = and_parts (not (is_ascii_digit c)) (not (eqb c 44)) e in
    let none : is_ascii_digit c ≡ false = not_true (is_ascii_digit c) parts.0 in
    rw none refl
digits_split (c ∷ ds) rest d e =
    let parts = and_parts (is_ascii_digit c) (all_ascii_digits ds) d in
    let later : digits_at (ds ++ rest) ≡ (ds, rest) = digits_split ds rest parts.1 e in
    rw (parts.0, later) refl

pub number_at_again : (most n : ℕ) (rest : List ℕ) → n ≤ most → n < 4294967296 → breaks_off rest ≡ true → number_at most (decimal n ++ rest) ≡ Some (n, rest)
unfolding number_at
number_at_again most n rest within fits e =
    let split : digits_at (decimal n ++ rest) ≡ (decimal n, rest) = digits_split (decimal n) rest (digits_decimal own n (omega (arith, fits))) e in
    let number : number_of (decimal n) ≡ Some n = number_again n (omega (arith, fits)) in
    let test : leb n most ≡ true = le-leb n most within in
    rw (split, number, test) refl

no_number : number_of [] ≡ None
no_number = rw (decimal_digit 0 (omega arith)) refl

pub number_at_none : (most : ℕ) (rest : List ℕ) → breaks_off rest ≡ true → number_at most rest ≡ None
unfolding number_at
number_at_none most rest e =
    let split : digits_at rest ≡ ([], rest) = digits_split [] rest refl e in
    rw (split, no_number) refl

digit_again : (d : ℕ) → d < 16 → digit_value (hex_digit d) ≡ Some d
digit_again zero below = refl
digit_again (suc zero) below = refl
digit_again (suc (suc zero)) below = refl
digit_again (suc (suc (suc zero))) below = refl
digit_again (suc (suc (suc (suc zero)))) below = refl
digit_again (suc (suc (suc (suc (suc zero))))) below = refl
digit_again (suc (suc (suc (suc (suc (suc zero)))))) below = refl
digit_again (suc (suc (suc (suc (suc (suc (suc zero))))))) below = refl
digit_again (suc (suc (suc (suc (suc (suc (suc (suc zero)))))))) below = refl
digit_again (suc (suc (suc (suc (suc (suc (suc (suc (suc zero))))))))) below = refl
digit_again (suc (suc (suc (suc (suc (suc (suc (suc (suc (suc zero)))))))))) below = refl
digit_again (suc (suc (suc (suc (suc (suc (suc (suc (suc (suc (suc zero))))))))))) below = refl
digit_again (suc (suc (suc (suc (suc (suc (suc (suc (suc (suc (suc (suc zero)))))))))))) below = refl
digit_again (suc (suc (suc (suc (suc (suc (suc (suc (suc (suc (suc (suc (suc zero))))))))))))) below = refl
digit_again (suc (suc (suc (suc (suc (suc (suc (suc (suc (suc (suc (suc (suc (suc zero)))))))))))))) below = refl
digit_again (suc (suc (suc (suc (suc (suc (suc (suc (suc (suc (suc (suc (suc (suc (suc zero))))))))))))))) below = refl
digit_again (suc (suc (suc (suc (suc (suc (suc (suc (suc (suc (suc (suc (suc (suc (suc (suc d)))))))))))))))) below = absurd (omega (arith, below))

pub byte_at_again : (b : ℕ) (rest : List ℕ) → b < 256 → byte_at (hex_byte b ++ rest) ≡ Some (b, rest)
unfolding byte_at
byte_at_again b rest fits =
    let high : digit_value (hex_digit (b / 16)) ≡ Some (b / 16) = digit_again (b / 16) (omega (arith, fits)) in
    let low : digit_value (hex_digit (b % 16)) ≡ Some (b % 16) = digit_again (b % 16) (omega arith) in
    let whole : b / 16 * 16 + b % 16 ≡ b = omega arith in
    rw (high, low, whole) refl

pub word_value_at_again : (w : ℕ) (rest : List ℕ) → w < 65536 → word_value_at (hex_word w ++ rest) ≡ Some (w, rest)
unfolding word_value_at
word_value_at_again w rest fits =
    let high : byte_at (hex_byte (w / 256) ++ (hex_byte (w % 256) ++ rest)) ≡ Some (w / 256, hex_byte (w % 256) ++ rest) = byte_at_again (w / 256) (hex_byte (w % 256) ++ rest) (omega (arith, fits)) in
    let low : byte_at (hex_byte (w % 256) ++ rest) ≡ Some (w % 256, rest) = byte_at_again (w % 256) rest (omega arith) in
    let whole : w / 256 * 256 + w % 256 ≡ w = omega arith in
    rw (high, low, whole) refl

pub double_at_again : (d : ℕ) (rest : List ℕ) → d < 4294967296 → double_at (hex_double d ++ rest) ≡ Some (d, rest)
unfolding double_at
double_at_again d rest fits =
    let high : word_value_at (hex_word (d / 65536) ++ (hex_word (d % 65536) ++ rest)) ≡ Some (d / 65536, hex_word (d % 65536) ++ rest) = word_value_at_again (d / 65536) (hex_word (d % 65536) ++ rest) (omega (arith, fits)) in
    let low : word_value_at (hex_word (d % 65536) ++ rest) ≡ Some (d % 65536, rest) = word_value_at_again (d % 65536) rest (omega arith) in
    let whole : d / 65536 * 65536 + d % 65536 ≡ d = omega arith in
    rw (high, low, whole) refl

-- ---- images

-- a cell, without its comma, read at any address
bare_cell : (at here byte : ℕ) (rest : List ℕ) → here < 65536 → byte < 256 → number_at 65535 (cell here byte ++ rest) ≡ Some (here, 58 ∷ (hex_byte byte ++ rest))
bare_cell at here byte rest place fits =
    ap (number_at 65535) (append_assoc (decimal here) (58 ∷ hex_byte byte) rest) ∙ number_at_again 65535 here (58 ∷ (hex_byte byte ++ rest)) (omega (arith, place)) (omega (arith, place)) refl

-- the cell of a byte that is not 0
pub cell_read : (first : Bool) (at byte : ℕ) (rest : List ℕ) → at < 65536 → byte < 256 → eqb byte 0 ≡ false → cell_at first at (cell_text first at byte ++ rest) ≡ Some (byte, rest)
unfolding cell_at
cell_read true at byte rest place fits lit =
    let number = bare_cell at at byte rest place fits in
    let value : byte_at (hex_byte byte ++ rest) ≡ Some (byte, rest) = byte_at_again byte rest fits in
    let here : eqb at at ≡ true = eq-eqb at at refl in
    rw (lit, number, value, here, lit) refl
cell_read false at byte rest place fits lit =
    let number = bare_cell at at byte rest place fits in
    let value : byte_at (hex_byte byte ++ rest) ≡ Some (byte, rest) = byte_at_again byte rest fits in
    let here : eqb at at ≡ true = eq-eqb at at refl in
    rw (lit, number, value, here, lit) refl

differs : (a b : ℕ) → a < b → eqb b a ≡ false
differs a b less = grind (arith, less)

-- a text that breaks off begins with no cell
no_cell : (first : Bool) (at : ℕ) (left : List ℕ) → breaks_off left ≡ true → cell_at first at left ≡ None
unfolding cell_at
no_cell true at left e = rw (number_at_none 65535 left e) refl
no_cell false at [] e = refl
no_cell false at (c ∷ left) e =
    let parts = and_parts (not (is_ascii_digit c)) (not (eqb c 44)) e in
    let none : eqb c 44 ≡ false = not_true (eqb c 44) parts.1 in
    rw none refl

-- a cell of a later address is passed over
later_cell : (first : Bool) (at later byte : ℕ) (rest : List ℕ) → at < later → later < 65536 → byte < 256 → eqb byte 0 ≡ false → cell_at first at (cell_text first later byte ++ rest) ≡ None
unfolding cell_at
later_cell true at later byte rest less place fits lit =
    let number = bare_cell at later byte rest place fits in
    let value : byte_at (hex_byte byte ++ rest) ≡ Some (byte, rest) = byte_at_again byte rest fits in
    let other : eqb later at ≡ false = differs at later less in
    rw (lit, number, value, other) refl
later_cell false at later byte rest less place fits lit =
    let number = bare_cell at later byte rest place fits in
    let value : byte_at (hex_byte byte ++ rest) ≡ Some (byte, rest) = byte_at_again byte rest fits in
    let other : eqb later at ≡ false = differs at later less in
    rw (lit, number, value, other) refl

no_cell_here : (first : Bool) (at later : ℕ) (bytes left : List ℕ) → at < later → later + length bytes ≤ 65536 → AreBytes bytes → breaks_off left ≡ true → cell_at first at (cells_text first later bytes ++ left) ≡ None
no_cell_here first at later [] left less place fit e = no_cell first at left e
no_cell_here first at later (byte ∷ bytes) left less place fit e =
    by_byte (λ f. no_cell_here f at (later + 1) bytes left (omega (arith, less)) (omega (arith, place)) fit.1 e) first (eqb byte 0) refl
  where
    by_byte : ((f : Bool) → cell_at f at (cells_text f (later + 1) bytes ++ left) ≡ None) → (f t : Bool) → eqb byte 0 ≡ t → cell_at f at ((cell_text f later byte ++ cells_text (f && eqb byte 0) (later + 1) bytes) ++ left) ≡ None
    by_byte deeper true true dark = rw dark (deeper true)
    by_byte deeper false true dark = rw dark (deeper false)
    by_byte deeper f false lit =
        ap (cell_at f at) (append_assoc (cell_text f later byte) (cells_text (f && eqb byte 0) (later + 1) bytes) left)
        ∙ later_cell f at later byte (cells_text (f && eqb byte 0) (later + 1) bytes ++ left) less (omega (arith, place)) fit.0 lit

and_true_is : (a : Bool) → (a && true) ≡ a
and_true_is true = refl
and_true_is false = refl

and_false_is : (a : Bool) → (a && false) ≡ false
and_false_is true = refl
and_false_is false = refl

-- the byte of an address is read back
byte_of_again : (first : Bool) (at byte : ℕ) (bytes left : List ℕ) → at + suc (length bytes) ≤ 65536 → byte < 256 → AreBytes bytes → breaks_off left ≡ true
    → byte_of first at ((cell_text first at byte ++ cells_text (first && eqb byte 0) (at + 1) bytes) ++ left) ≡ (byte, cells_text (first && eqb byte 0) (at + 1) bytes ++ left)
unfolding byte_of
byte_of_again first at byte bytes left place fits fit e = by_byte (eqb byte 0) refl
  where
    next : List ℕ
    next = cells_text (first && eqb byte 0) (at + 1) bytes ++ left

    by_byte : (t : Bool) → eqb byte 0 ≡ t → byte_or_dark ((cell_text first at byte ++ cells_text (first && eqb byte 0) (at + 1) bytes) ++ left) (cell_at first at ((cell_text first at byte ++ cells_text (first && eqb byte 0) (at + 1) bytes) ++ left)) ≡ (byte, next)
    by_byte true dark =
        let zero_byte : byte ≡ 0 = grind (arith, dark) in
        let same : (first && true) ≡ first = and_true_is first in
        let none : cell_at first at (cells_text first (at + 1) bytes ++ left) ≡ None = no_cell_here first at (at + 1) bytes left (omega arith) (omega (arith, place)) fit e in
        rw (dark, same, none, zero_byte) refl
    by_byte false lit =
        let found : cell_at first at ((cell_text first at byte ++ cells_text (first && eqb byte 0) (at + 1) bytes) ++ left) ≡ Some (byte, next) =
        ap (cell_at first at) (append_assoc (cell_text first at byte) (cells_text (first && eqb byte 0) (at + 1) bytes) left) ∙ cell_read first at byte next (omega (arith, place)) fits lit in
        ap (byte_or_dark ((cell_text first at byte ++ cells_text (first && eqb byte 0) (at + 1) bytes) ++ left)) found

abbrev pub join : ℕ → List ℕ × List ℕ → List ℕ × List ℕ
join byte later = (byte ∷ later.0, later.1)

pub cells_again : (first : Bool) (at : ℕ) (bytes left : List ℕ) → at + length bytes ≤ 65536 → AreBytes bytes → breaks_off left ≡ true → cells_from first at (length bytes) (cells_text first at bytes ++ left) ≡ (bytes, left)
unfolding cells_from
cells_again first at [] left place fit e = refl
cells_again first at (byte ∷ bytes) left place fit e =
    let here = byte_of_again first at byte bytes left place fit.0 fit.1 e in
    let later : cells_from (first && eqb byte 0) (at + 1) (length bytes) (cells_text (first && eqb byte 0) (at + 1) bytes ++ left) ≡ (bytes, left) = cells_again (first && eqb byte 0) (at + 1) bytes left (omega (arith, place)) fit.1 e in
    rw (here, later) refl

pub image_at_again : (count : ℕ) (bytes left : List ℕ) → count ≤ 65536 → IsImage count bytes → breaks_off left ≡ true → image_at count (image bytes ++ left) ≡ Some (bytes, left)
unfolding image_at
image_at_again count bytes left few fit e = by_dark (is_dark bytes) refl
  where
    by_dark : (t : Bool) → is_dark bytes ≡ t → lit_or_dash (cells_from true 0 count (cond t (codes "-") (cells_text true 0 bytes) ++ left)) ≡ Some (bytes, left)
    by_dark true dark =
        let none : cells_text true 0 bytes ≡ [] = dark_cells true 0 bytes dark in
        let cells : cells_from true 0 (length bytes) (cells_text true 0 bytes ++ (45 ∷ left)) ≡ (bytes, 45 ∷ left) = cells_again true 0 bytes (45 ∷ left) (omega (arith, few, fit.0)) fit.1 refl in
        let read : cells_from true 0 count (45 ∷ left) ≡ (bytes, 45 ∷ left) = sym (ap (λ (n : ℕ). cells_from true 0 n (45 ∷ left)) fit.0) ∙ sym (ap (λ (t : List ℕ). cells_from true 0 (length bytes) (t ++ (45 ∷ left))) none) ∙ cells in
        rw (read, dark) refl
    by_dark false lit =
        let cells : cells_from true 0 (length bytes) (cells_text true 0 bytes ++ left) ≡ (bytes, left) = cells_again true 0 bytes left (omega (arith, few, fit.0)) fit.1 e in
        let read : cells_from true 0 count (cells_text true 0 bytes ++ left) ≡ (bytes, left) = sym (ap (λ (n : ℕ). cells_from true 0 n (cells_text true 0 bytes ++ left)) fit.0) ∙ cells in
        rw (read, lit) refl
