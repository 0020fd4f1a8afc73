-- The words of the lines of a made script, and the numbers in them.
use Rattle.std.proofs.Common.{◌≡◌, ℕ, ◌+◌, ◌-◌, ◌*◌, ◌/◌, ◌%◌, ◌^◌, ◌≤◌, ◌<◌, Bool, true, false, cond, eqb, List, [], ◌∷◌, ◌++◌, Some, inl, inr, refl, sym, ◌∙◌, ap, arith, codes}
use Rattle.std.specs.Str.{all_ascii_digits}
use Rattle.std.specs.Fmt.{decimal, digit_glyph}
use Rattle.std.proofs.lemmas.Bool.{cases_lt, lt-ltb, le-ltb, le-leb, lt-leb}
use Rattle.std.proofs.lemmas.Fmt.{hex_one_digit}
use Rattle.plant_script.specs.Words.{is_empty, onto, ends_word, words_of}
use Rattle.plant_script.specs.Numbers.{value_of, is_number, number_within, hex_digit, hex_from, hex_of}
use Rattle.load_maker.specs.Lines.{hex_byte}
use Rattle.workload_laws.specs.MadeScripts.{input_line, alarm_line, loss_line, end_line, HasItsWords, HasItsNumbers}
use Rattle.workload_laws.proofs.Digits.{AreDigits, decimal_is, digit_other}
use Rattle.workload_laws.proofs.Lines.{glyph_low}

-- no byte is a blank
abbrev IsSolid : List ℕ → Type 0
IsSolid [] = Unit {0}
IsSolid (b ∷ bs) = (eqb b 32 ≡ false) × IsSolid bs

word_step : (b : ℕ) (bs : List ℕ) (blank ends : Bool) → eqb b 32 ≡ blank → ends_word bs ≡ ends
    → words_of (b ∷ bs) ≡ cond blank (words_of bs) (cond ends ((b ∷ []) ∷ words_of bs) (onto b (words_of bs)))
unfolding words_of
word_step b bs blank ends is next = rw (is, next) refl

no_words : words_of [] ≡ []
unfolding words_of
no_words = refl

-- a word, a blank, and what follows
word_on : (w rest : List ℕ) → is_empty w ≡ false → IsSolid w → words_of (w ++ 32 ∷ rest) ≡ w ∷ words_of rest
word_on [] rest some solid = absurd cc
word_on (b ∷ []) rest some solid =
    word_step b (32 ∷ rest) false true solid.0 refl ∙ ap (λ (ws : List (List ℕ)). (b ∷ []) ∷ ws) (word_step 32 rest true (ends_word rest) refl refl)
word_on (b ∷ c ∷ w) rest some solid =
    word_step b (c ∷ (w ++ 32 ∷ rest)) false false solid.0 solid.1.0 ∙ ap (λ (ws : List (List ℕ)). onto b ws) (word_on (c ∷ w) rest refl solid.1)

-- a word at the end of its line
word_last : (w : List ℕ) → is_empty w ≡ false → IsSolid w → words_of w ≡ w ∷ []
word_last [] some solid = absurd cc
word_last (b ∷ []) some solid =
    word_step b [] false true solid.0 refl ∙ ap (λ (ws : List (List ℕ)). (b ∷ []) ∷ ws) no_words
word_last (b ∷ c ∷ w) some solid =
    word_step b (c ∷ w) false false solid.0 solid.1.0 ∙ ap (λ (ws : List (List ℕ)). onto b ws) (word_last (c ∷ w) refl solid.1)

-- ---- numbers

digits_solid : (ds : List ℕ) → AreDigits ds → IsSolid ds
digits_solid [] are = tt
digits_solid (d ∷ ds) are = (digit_other d 32 are.0 (omega arith), digits_solid ds are.2)

digits_all : (ds : List ℕ) → AreDigits ds → all_ascii_digits ds ≡ true
digits_all [] are = refl
digits_all (d ∷ ds) are = rw (le-leb 48 d are.0, le-leb d 57 are.1, digits_all ds are.2) refl

pub decimal_number : (n : ℕ) → n < 2 ^ 64 → is_number (decimal n) ≡ true
unfolding is_number
decimal_number n small = let is = decimal_is n small in rw (is.some, digits_all (decimal n) is.digits) refl

pub decimal_value : (n : ℕ) → n < 2 ^ 64 → value_of (decimal n) ≡ n
unfolding value_of
decimal_value n small = (decimal_is n small).value

pub decimal_within : (n most : ℕ) → n < 2 ^ 64 → n ≤ most → number_within most (decimal n) ≡ Some n
unfolding number_within
decimal_within n most small within = rw (decimal_number n small, decimal_value n small, le-leb n most within) refl

low_digit : (g v : ℕ) → 48 ≤ g → g ≤ 57 → g - 48 ≡ v → hex_digit g ≡ Some v
low_digit g v low high is = rw (le-leb 48 g low, le-leb g 57 high, is) refl

high_digit : (g v : ℕ) → 65 ≤ g → g ≤ 70 → g - 55 ≡ v → hex_digit g ≡ Some v
high_digit g v low high is =
    let above : 57 < g = omega arith in
    rw (le-leb 48 g (omega arith), lt-leb g 57 above, le-leb 65 g low, le-leb g 70 high, is) refl

-- a digit that is written is read
glyph_read : (d : ℕ) → d < 16 → hex_digit (digit_glyph true d) ≡ Some d
glyph_read d small =
    elim (cases_lt d 10) [
      | inl lt ↦
          let is : digit_glyph true d ≡ 48 + d = rw (lt-ltb d 10 lt) refl in
          low_digit (digit_glyph true d) d (omega (arith, is)) (omega (arith, is, lt)) (omega (arith, is))
      | inr le ↦
          let is : digit_glyph true d ≡ 55 + d = rw (le-ltb d 10 le) refl in
          high_digit (digit_glyph true d) d (omega (arith, is, le)) (omega (arith, is, small)) (omega (arith, is))
    ]

pub glyphs : (b : ℕ) → b < 256 → hex_byte b ≡ digit_glyph true (b / 16) ∷ digit_glyph true (b % 16) ∷ []
glyphs b small = rw (hex_one_digit true (b / 16) (omega arith), hex_one_digit true (b % 16) (omega arith)) refl

two_read : (x y u v w : ℕ) → hex_digit x ≡ Some u → hex_digit y ≡ Some v → (0 * 16 + u) * 16 + v ≡ w → hex_from 0 (x ∷ y ∷ []) ≡ Some w
two_read x y u v w high low is = rw (high, low) (ap (λ (k : ℕ). Some k) is)

byte_value : (b : ℕ) → b < 256 → hex_from 0 (hex_byte b) ≡ Some b
byte_value b small =
    ap (hex_from 0) (glyphs b small)
    ∙ two_read (digit_glyph true (b / 16)) (digit_glyph true (b % 16)) (b / 16) (b % 16) b (glyph_read (b / 16) (omega arith)) (glyph_read (b % 16) (omega arith)) (omega arith)

-- a byte as two digits, and behind six zeros
pub byte_read : (b : ℕ) → b < 256 → hex_of 2 (hex_byte b) ≡ Some b
unfolding hex_of
byte_read b small =
    let value : hex_from 0 (digit_glyph true (b / 16) ∷ digit_glyph true (b % 16) ∷ []) ≡ Some b = ap (hex_from 0) (sym (glyphs b small)) ∙ byte_value b small in
    rw (glyphs b small) value

pub word_read : (b : ℕ) → b < 256 → hex_of 8 (codes "000000" ++ hex_byte b) ≡ Some b
unfolding hex_of
word_read b small =
    let value : hex_from 0 (digit_glyph true (b / 16) ∷ digit_glyph true (b % 16) ∷ []) ≡ Some b = ap (hex_from 0) (sym (glyphs b small)) ∙ byte_value b small in
    rw (glyphs b small) value

glyph_solid : (d : ℕ) → eqb (digit_glyph true d) 32 ≡ false
glyph_solid d = digit_other (digit_glyph true d) 32 (glyph_low d) (omega arith)

-- ---- lines

-- the words of a line with a moment
at_words : (m : ℕ) (back : List ℕ) → m < 2 ^ 64 → words_of (codes "AT " ++ (decimal m ++ 32 ∷ back)) ≡ codes "AT" ∷ decimal m ∷ words_of back
at_words m back small =
    let is = decimal_is m small in
    word_on (codes "AT") (decimal m ++ 32 ∷ back) refl (refl, (refl, tt))
    ∙ ap (λ (ws : List (List ℕ)). codes "AT" ∷ ws) (word_on (decimal m) back is.some (digits_solid (decimal m) is.digits))

hex_words : (b : ℕ) → b < 256 → words_of (hex_byte b) ≡ hex_byte b ∷ []
hex_words b small =
    rw (glyphs b small) (word_last (digit_glyph true (b / 16) ∷ digit_glyph true (b % 16) ∷ []) refl (glyph_solid (b / 16), (glyph_solid (b % 16), tt)))

long_words : (b : ℕ) → b < 256 → words_of (codes "000000" ++ hex_byte b) ≡ (codes "000000" ++ hex_byte b) ∷ []
long_words b small =
    rw (glyphs b small)
    (word_last (codes "000000" ++ digit_glyph true (b / 16) ∷ digit_glyph true (b % 16) ∷ []) refl
    (refl, (refl, (refl, (refl, (refl, (refl, (glyph_solid (b / 16), (glyph_solid (b % 16), tt)))))))))

input_words : (m : ℕ) → m ≤ 100000 → words_of (input_line m) ≡ codes "AT" ∷ decimal m ∷ codes "INPUT" ∷ codes "0" ∷ hex_byte (m / 100 % 256) ∷ []
input_words m few =
    let value = hex_byte (m / 100 % 256) in
    at_words m (codes "INPUT 0 " ++ value) (omega arith)
    ∙ ap (λ (ws : List (List ℕ)). codes "AT" ∷ decimal m ∷ ws)
    (word_on (codes "INPUT") (codes "0 " ++ value) refl (refl, (refl, (refl, (refl, (refl, tt)))))
    ∙ ap (λ (ws : List (List ℕ)). codes "INPUT" ∷ ws)
    (word_on (codes "0") value refl (refl, tt) ∙ ap (λ (ws : List (List ℕ)). codes "0" ∷ ws) (hex_words (m / 100 % 256) (omega arith))))

alarm_words : (m : ℕ) → m ≤ 100000 → words_of (alarm_line m) ≡ codes "AT" ∷ decimal m ∷ codes "ALARM" ∷ codes "40" ∷ (codes "000000" ++ hex_byte (m / 1000)) ∷ []
alarm_words m few =
    let number = codes "000000" ++ hex_byte (m / 1000) in
    at_words m (codes "ALARM 40 " ++ number) (omega arith)
    ∙ ap (λ (ws : List (List ℕ)). codes "AT" ∷ decimal m ∷ ws)
    (word_on (codes "ALARM") (codes "40 " ++ number) refl (refl, (refl, (refl, (refl, (refl, tt)))))
    ∙ ap (λ (ws : List (List ℕ)). codes "ALARM" ∷ ws)
    (word_on (codes "40") number refl (refl, (refl, tt)) ∙ ap (λ (ws : List (List ℕ)). codes "40" ∷ ws) (long_words (m / 1000) (omega arith))))

loss_words : (m : ℕ) → m ≤ 100000 → words_of (loss_line m) ≡ codes "AT" ∷ decimal m ∷ codes "FAIL" ∷ codes "B" ∷ []
loss_words m few =
    at_words m (codes "FAIL B") (omega arith)
    ∙ ap (λ (ws : List (List ℕ)). codes "AT" ∷ decimal m ∷ ws)
    (word_on (codes "FAIL") (codes "B") refl (refl, (refl, (refl, (refl, tt))))
    ∙ ap (λ (ws : List (List ℕ)). codes "FAIL" ∷ ws) (word_last (codes "B") refl (refl, tt)))

pub end_words : (n : ℕ) → n ≤ 100000 → words_of (end_line n) ≡ codes "END" ∷ decimal n ∷ []
end_words n few =
    let is = decimal_is n (omega arith) in
    word_on (codes "END") (decimal n) refl (refl, (refl, (refl, tt)))
    ∙ ap (λ (ws : List (List ℕ)). codes "END" ∷ ws) (word_last (decimal n) is.some (digits_solid (decimal n) is.digits))

pub lines_have_words : (m : ℕ) → HasItsWords m
lines_have_words m few = record {
  input = input_words m few;
  alarm = alarm_words m few;
  loss = loss_words m few;
  end = end_words m few;
}

pub numbers_are_read : (n : ℕ) → HasItsNumbers n
numbers_are_read n = record {
  decimal_number = λ few. decimal_number n (omega arith);
  decimal_value = λ few. decimal_value n (omega arith);
  byte = λ few. byte_read n few;
  word = λ few. word_read n few;
}
