-- The lines of a made script.
use Rattle.std.proofs.Common.{◌≡◌, ℕ, zero, suc, ◌+◌, ◌-◌, ◌*◌, ◌/◌, ◌%◌, ◌^◌, ◌≤◌, ◌<◌, Bool, true, false, eqb, List, [], ◌∷◌, ◌++◌, refl, ◌∙◌, ap, append_assoc, arith, codes}
use Rattle.std.specs.Prelude.{◌==◌, ◌&&◌, not, nat_lt, if◌then◌else◌}
use Rattle.std.specs.List.{flat_map, range_with_len}
use Rattle.std.specs.Fmt.{decimal, digit_glyph}
use Rattle.std.proofs.lemmas.Bool.{and_parts, cond_both, ltb-false}
use Rattle.std.proofs.lemmas.Fmt.{hex_one_digit}
use Rattle.plant_script.specs.Words.{lines_of}
use Rattle.load_maker.specs.Lines.{text_of, hex_byte}
use Rattle.load_maker.specs.Script.{module_lines, input_lines, alarm_lines, loss_lines, hundred_lines, all_moment_lines, end_lines, script_lines}
use Rattle.workload_laws.specs.MadeScripts.{HasItsLines}
use Rattle.workload_laws.proofs.Digits.{AreDigits, decimal_is, digit_other}

-- no byte is a line feed or a carriage return
abbrev pub IsPlain : List ℕ → Type 0
IsPlain [] = Unit {0}
IsPlain (b ∷ bs) = (eqb b 10 ≡ false) × (eqb b 13 ≡ false) × IsPlain bs

abbrev pub ArePlain : List (List ℕ) → Type 0
ArePlain [] = Unit {0}
ArePlain (l ∷ ls) = IsPlain l × ArePlain ls

-- such a line, its end and what follows
line_on : (w rest : List ℕ) → IsPlain w → lines_of (w ++ 10 ∷ rest) ≡ w ∷ lines_of rest
unfolding lines_of
line_on [] rest plain = refl
line_on (b ∷ w) rest plain = rw (plain.0, plain.1, line_on w rest plain.2) refl

no_lines : lines_of [] ≡ []
unfolding lines_of
no_lines = refl

text_is_lines : (ls : List (List ℕ)) → ArePlain ls → lines_of (text_of ls) ≡ ls
text_is_lines [] plain = no_lines
text_is_lines (l ∷ ls) plain =
    ap lines_of (append_assoc l (codes "\n") (text_of ls)) ∙ line_on l (text_of ls) plain.0
    ∙ ap (λ (others : List (List ℕ)). l ∷ others) (text_is_lines ls plain.1)

-- ---- the lines of a made script are such

plain_both : (a b : List ℕ) → IsPlain a → IsPlain b → IsPlain (a ++ b)
plain_both [] b pa pb = pb
plain_both (x ∷ a) b pa pb = (pa.0, pa.1, plain_both a b pa.2 pb)

are_both : (a b : List (List ℕ)) → ArePlain a → ArePlain b → ArePlain (a ++ b)
are_both [] b pa pb = pb
are_both (x ∷ a) b pa pb = (pa.0, are_both a b pa.1 pb)

digits_plain : (ds : List ℕ) → AreDigits ds → IsPlain ds
digits_plain [] are = tt
digits_plain (d ∷ ds) are = (digit_other d 10 are.0 (omega arith), digit_other d 13 are.0 (omega arith), digits_plain ds are.2)

decimal_plain : (n : ℕ) → n < 2 ^ 64 → IsPlain (decimal n)
decimal_plain n small = digits_plain (decimal n) (decimal_is n small).digits

-- a test of a text that is given byte by byte
abbrev is_plain : List ℕ → Bool
is_plain [] = true
is_plain (b ∷ bs) = (not (b == 10) && not (b == 13)) && is_plain bs

no_true : (t : Bool) → not t ≡ true → t ≡ false
no_true true e = absurd cc
no_true false e = refl

plain_by : (w : List ℕ) → is_plain w ≡ true → IsPlain w
plain_by [] is = tt
plain_by (b ∷ bs) is =
    let parts = and_parts (not (b == 10) && not (b == 13)) (is_plain bs) is in
    let here = and_parts (not (b == 10)) (not (b == 13)) parts.0 in
    (no_true (b == 10) here.0, no_true (b == 13) here.1, plain_by bs parts.1)

pub glyph_low : (d : ℕ) → 48 ≤ digit_glyph true d
glyph_low d = cond_both (nat_lt d 10) (48 + d) (55 + d) (λ g. 48 ≤ g) (λ low. omega arith) (λ high. let above = ltb-false d 10 high in omega (arith, above))

glyph_plain : (d : ℕ) → IsPlain (digit_glyph true d ∷ [])
glyph_plain d = (digit_other (digit_glyph true d) 10 (glyph_low d) (omega arith), digit_other (digit_glyph true d) 13 (glyph_low d) (omega arith), tt)

hex_plain : (b : ℕ) → b < 256 → IsPlain (hex_byte b)
hex_plain b small =
    rw (hex_one_digit true (b / 16) (omega arith), hex_one_digit true (b % 16) (omega arith))
    (plain_both (digit_glyph true (b / 16) ∷ []) (digit_glyph true (b % 16) ∷ []) (glyph_plain (b / 16)) (glyph_plain (b % 16)))

numbered : (front : List ℕ) (m : ℕ) (back : List ℕ) → IsPlain front → m < 2 ^ 64 → IsPlain back → IsPlain (front ++ (decimal m ++ back))
numbered front m back pf small pb = plain_both front (decimal m ++ back) pf (plain_both (decimal m) back (decimal_plain m small) pb)

some_lines : (t : Bool) (ls : List (List ℕ)) → ArePlain ls → ArePlain (if t then ls else [])
some_lines true ls plain = plain
some_lines false ls plain = tt

input_plain : (m : ℕ) → m < 100000 → ArePlain (input_lines m)
input_plain m few =
    let value = hex_byte (m / 100 % 256) in
    let back = codes " INPUT 0 " ++ value in (
      numbered (codes "AT ") m back (plain_by (codes "AT ") refl) (omega arith)
          (plain_both (codes " INPUT 0 ") value (plain_by (codes " INPUT 0 ") refl) (hex_plain (m / 100 % 256) (omega arith))),
      tt,
    )

alarm_plain : (m : ℕ) → m < 100000 → ArePlain (alarm_lines m)
alarm_plain m few =
    let number = hex_byte (m / 1000) in
    let back = codes " ALARM 40 000000" ++ number in
    let line = codes "AT " ++ (decimal m ++ back) in
    some_lines (m % 1000 == 0) (line ∷ []) (
      numbered (codes "AT ") m back (plain_by (codes "AT ") refl) (omega arith)
          (plain_both (codes " ALARM 40 000000") number (plain_by (codes " ALARM 40 000000") refl) (hex_plain (m / 1000) (omega arith))),
      tt,
    )

loss_plain : (n m : ℕ) → m < 100000 → ArePlain (loss_lines n m)
loss_plain n m few =
    let line = codes "AT " ++ (decimal m ++ codes " FAIL B") in
    some_lines (m == 100 * (n / 200)) (line ∷ [])
    (numbered (codes "AT ") m (codes " FAIL B") (plain_by (codes "AT ") refl) (omega arith) (plain_by (codes " FAIL B") refl), tt)

hundred_plain : (n k : ℕ) → k < 1000 → ArePlain (hundred_lines n k)
hundred_plain n k few =
    let m = 100 * k in
    let low : m < 100000 = omega arith in
    are_both (input_lines m) (alarm_lines m ++ loss_lines n m) (input_plain m low)
    (are_both (alarm_lines m) (loss_lines n m) (alarm_plain m low) (loss_plain n m low))

all_plain : (n i count : ℕ) → i + count ≤ 1000 → ArePlain (flat_map (hundred_lines n) (range_with_len i count))
all_plain n i zero within = tt
all_plain n i (suc count) within =
    are_both (hundred_lines n i) (flat_map (hundred_lines n) (range_with_len (i + 1) count))
    (hundred_plain n i (omega arith)) (all_plain n (i + 1) count (omega arith))

modules_plain : ArePlain module_lines
modules_plain = (plain_by (codes "MODULE IN 0 1 SWITCHED") refl, (plain_by (codes "MODULE OUT 0 1 SWITCHED") refl, tt))

end_plain : (n : ℕ) → n ≤ 100000 → ArePlain (end_lines n)
end_plain n few = (plain_both (codes "END ") (decimal n) (plain_by (codes "END ") refl) (decimal_plain n (omega arith)), tt)

pub script_is_lines : (n : ℕ) → HasItsLines n
script_is_lines n few =
    text_is_lines (script_lines n)
    (are_both module_lines (all_moment_lines n ++ end_lines n) modules_plain
    (are_both (all_moment_lines n) (end_lines n) (all_plain n 1 ((n - 1) / 100) (omega arith)) (end_plain n few)))
