-- How numbers are written: decimal digits and hexadecimal ones.
use Rattle.std.proofs.Common.{◌≡◌, ℕ, zero, suc, ◌+◌, ◌/◌, ◌%◌, ◌^◌, ◌<◌, ◌≤◌, false, List, [], ◌∷◌, ◌++◌, refl, arith, inl, inr}
use Rattle.std.specs.Prelude.{◌==◌, ◌⊎◌, nat_lt, get_or}
use Rattle.std.specs.Fmt.{decimal, digits, digits_onto, digit_glyph}
use Rattle.std.proofs.Math.Nat.{pow-suc}
use Rattle.std.proofs.lemmas.Bool.{cond_both, ltb-true, ltb-false}
use Rattle.trace_text.specs.Image.{hex_digit, hex_byte, hex}
use Rattle.trace_laws.proofs.Splits.{Free, IsMark, free_append, last_two}

-- decimal digits alone
abbrev pub AreDigits : List ℕ → Type 0
AreDigits [] = Unit {0}
AreDigits (x ∷ xs) = (48 ≤ x) × (x < 58) × AreDigits xs

-- at least one of them
abbrev pub IsNumber : List ℕ → Type 0
IsNumber [] = ⊥
IsNumber (x ∷ xs) = (48 ≤ x) × (x < 58) × AreDigits xs

number_digits : (xs : List ℕ) → IsNumber xs → AreDigits xs
number_digits [] h = absurd h
number_digits (x ∷ xs) h = h

glyph_is : (n : ℕ) → (48 ≤ digit_glyph false (n % 10)) × (digit_glyph false (n % 10) < 58)
glyph_is n =
    cond_both (nat_lt (n % 10) 10) (48 + n % 10) (87 + n % 10) (λ g. (48 ≤ g) × (g < 58))
    (λ low. let below = ltb-true (n % 10) 10 low in (omega arith, omega arith))
    (λ high. let above = ltb-false (n % 10) 10 high in absurd (omega arith))

number_onto : (k n : ℕ) (after : List ℕ) → IsNumber after → IsNumber (digits_onto k 10 false n after)
number_onto zero n after h = h
number_onto (suc k) n after h =
    let glyph = glyph_is n in
    let next : IsNumber (digit_glyph false (n % 10) ∷ after) = (glyph.0, glyph.1, number_digits after h) in
    cond_both (n / 10 == 0) (digit_glyph false (n % 10) ∷ after) (digits_onto k 10 false (n / 10) (digit_glyph false (n % 10) ∷ after)) IsNumber
    (λ _. next) (λ _. number_onto k (n / 10) (digit_glyph false (n % 10) ∷ after) next)

-- a number in decimal digits, however great
pub decimal_is : (n : ℕ) → IsNumber (decimal n)
unfolding digits
decimal_is n =
    let glyph = glyph_is n in
    let next : IsNumber (digit_glyph false (n % 10) ∷ []) = (glyph.0, glyph.1, tt) in
    cond_both (n / 10 == 0) (digit_glyph false (n % 10) ∷ []) (digits_onto 63 10 false (n / 10) (digit_glyph false (n % 10) ∷ [])) IsNumber
    (λ _. next) (λ _. number_onto 63 (n / 10) (digit_glyph false (n % 10) ∷ []) next)

-- how a text begins that begins with a number
pub number_head : (ds rest : List ℕ) → IsNumber ds → (48 ≤ get_or (ds ++ rest) 0 0) × (get_or (ds ++ rest) 0 0 < 58)
number_head [] rest h = absurd h
number_head (x ∷ xs) rest h = (h.0, h.1)

digits_free : (c : ℕ) (xs : List ℕ) → (c < 48) ⊎ (58 ≤ c) → AreDigits xs → Free c xs
digits_free c [] out h = tt
digits_free c (x ∷ xs) out h =
    (elim out [ inl low ↦ (λ e. omega (arith, h.0)) | inr high ↦ (λ e. omega (arith, h.1)) ], digits_free c xs out h.2)

pub decimal_free : (c n : ℕ) → (c < 48) ⊎ (58 ≤ c) → Free c (decimal n)
decimal_free c n out = digits_free c (decimal n) out (number_digits (decimal n) (decimal_is n))

-- hexadecimal digits --

hex_digit_is : (d : ℕ) → ((d < 10) × (hex_digit d ≡ 48 + d)) ⊎ ((10 ≤ d) × (hex_digit d ≡ 55 + d))
hex_digit_is d =
    cond_both (nat_lt d 10) (48 + d) (55 + d) (λ g. ((d < 10) × (g ≡ 48 + d)) ⊎ ((10 ≤ d) × (g ≡ 55 + d)))
    (λ low. inl (ltb-true d 10 low, refl)) (λ high. inr (ltb-false d 10 high, refl))

hex_digit_one : (a b : ℕ) → hex_digit a ≡ hex_digit b → a ≡ b
hex_digit_one a b e =
    elim (hex_digit_is a) [
      | inl p ↦ elim (hex_digit_is b) [ inl q ↦ omega (arith, p.0, p.1, q.0, q.1, e) | inr q ↦ omega (arith, p.0, p.1, q.0, q.1, e) ]
      | inr p ↦ elim (hex_digit_is b) [ inl q ↦ omega (arith, p.0, p.1, q.0, q.1, e) | inr q ↦ omega (arith, p.0, p.1, q.0, q.1, e) ]
    ]

hex_digit_free : (c d : ℕ) → IsMark c → hex_digit d ≡ c → ⊥
hex_digit_free c d mark e =
    elim mark [
      | inl is ↦ elim (hex_digit_is d) [ inl p ↦ omega (arith, p.0, p.1, e) | inr p ↦ omega (arith, p.0, p.1, e) ]
      | inr is ↦ elim (hex_digit_is d) [ inl p ↦ omega (arith, p.0, p.1, e) | inr p ↦ omega (arith, p.0, p.1, e) ]
    ]

pub hex_byte_free : (c b : ℕ) → IsMark c → Free c (hex_byte b)
hex_byte_free c b mark = (hex_digit_free c (b / 16) mark, (hex_digit_free c (b % 16) mark, tt))

-- two digits determine a byte
pub byte_one : (a b : ℕ) → hex_digit (a / 16) ≡ hex_digit (b / 16) → hex_digit (a % 16) ≡ hex_digit (b % 16) → a ≡ b
byte_one a b h l =
    let high = hex_digit_one (a / 16) (b / 16) h in
    let low = hex_digit_one (a % 16) (b % 16) l in
    omega arith

pub hex_free : (c width value : ℕ) → IsMark c → Free c (hex width value)
unfolding hex
hex_free c zero value mark = tt
hex_free c (suc width) value mark =
    free_append c (hex width (value / 256)) (hex_byte (value % 256)) (hex_free c width (value / 256) mark) (hex_byte_free c (value % 256) mark)

-- a value that lies in so many bytes is determined by its digits
pub hex_one : (width a b : ℕ) → a < 256 ^ width → b < 256 ^ width → hex width a ≡ hex width b → a ≡ b
unfolding hex
hex_one zero a b la lb e = omega arith
hex_one (suc width) a b la lb e =
    let power = pow-suc 256 width in
    let last = last_two (hex width (a / 256)) (hex width (b / 256)) (hex_digit (a % 256 / 16)) (hex_digit (a % 256 % 16)) (hex_digit (b % 256 / 16)) (hex_digit (b % 256 % 16)) e in
    let low = byte_one (a % 256) (b % 256) last.1 last.2 in
    let high = hex_one width (a / 256) (b / 256) (omega arith) (omega arith) last.0 in
    omega arith
