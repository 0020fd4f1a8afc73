-- Numbers in digits: what is spelled so is read, and what is read is spelled so.
use Rattle.std.proofs.Common.{◌≡◌, ◌≤◌, ◌+◌, ◌*◌, ℕ, List, [], ◌∷◌, ◌++◌, refl, subst, ap, sym, ◌∙◌, Bool, true, false, cond, ◌==◌, ◌&&◌, nat_lt, arith, append_assoc, append-nil}
use Rattle.std.proofs.lemmas.Bool.{and_parts, eqb-true, ltb-true}
use Rattle.stl_lex.specs.Numerals.{digit, is_digit, goes_on, and_byte, value_from, value_of}
use Rattle.reader_laws.specs.Numerals.{IsNumeral, one_digit, next_digit, behind_line, NumeralsReadAreSpelled, NumeralsSpelledAreRead}

-- a choice that holds where either way holds
chosen : (a d e p q r s t : Bool) → cond a (d && p) (e && q) ≡ true → (p ≡ true → r ≡ t) → (q ≡ true → s ≡ t) → cond a (d && r) (e && s) ≡ t
chosen true true e p q r s t h f g = f h
chosen true false e p q r s t h f g = absurd cc
chosen false d true p q r s t h f g = g h
chosen false d false p q r s t h f g = absurd cc

-- what stands between two digits: nothing, or `_`
abbrev between_digits : Bool → List ℕ
between_digits true = []
between_digits false = 95 ∷ []

module _ (base : ℕ) (small : base ≤ 36) where
  line_no_digit : is_digit base 95 ≡ false
  line_no_digit = by (nat_lt 36 base) refl
    where
      by : (b : Bool) → nat_lt 36 base ≡ b → b ≡ false
      by true e = let more = ltb-true 36 base e in absurd (omega (arith, more, small))
      by false e = refl

  no_line : (b : ℕ) → is_digit base b ≡ true → (b == 95) ≡ false
  no_line b h = by (b == 95) refl
    where
      by : (t : Bool) → (b == 95) ≡ t → t ≡ false
      by true e =
          let same : b ≡ 95 = eqb-true b 95 e in
          let wrong : true ≡ false = sym h ∙ (ap (λ c. is_digit base c) same ∙ line_no_digit) in
          absurd cc
      by false e = refl

  from_nothing : (n : ℕ) → 0 * base + n ≡ n
  from_nothing n = omega arith

  with_digit : (n b : ℕ) → is_digit base b ≡ true → and_byte base n b ≡ n * base + digit b
  with_digit n b h = ap (λ t. cond t n (n * base + digit b)) (no_line b h)

  digit_goes : (d : Bool) (b : ℕ) → is_digit base b ≡ true → goes_on d base (b ∷ []) ≡ true
  digit_goes d b h = rw (no_line b h, h) refl

  value_append : (v : ℕ) (xs ys : List ℕ) → value_from base v (xs ++ ys) ≡ value_from base (value_from base v xs) ys
  value_append v [] ys = refl
  value_append v (x ∷ xs) ys = value_append (and_byte base v x) xs ys

  goes_append : (d : Bool) (xs ys : List ℕ) → goes_on d base xs ≡ true → goes_on d base (xs ++ ys) ≡ goes_on true base ys
  goes_append d [] ys h = ap (λ c. goes_on c base ys) h
  goes_append d (x ∷ xs) ys h =
      chosen (x == 95) d (is_digit base x) (goes_on false base xs) (goes_on true base xs) (goes_on false base (xs ++ ys)) (goes_on true base (xs ++ ys)) (goes_on true base ys) h (λ e. goes_append false xs ys e) (λ e. goes_append true xs ys e)

  numeral_goes : (n : ℕ) (bytes : List ℕ) → IsNumeral base n bytes → goes_on false base bytes ≡ true
  numeral_goes n bytes (one_digit b is) = digit_goes false b is
  numeral_goes n bytes (next_digit m b front h is) = goes_append false front (b ∷ []) (numeral_goes m front h) ∙ digit_goes true b is
  numeral_goes n bytes (behind_line m b front h is) = goes_append false front (95 ∷ b ∷ []) (numeral_goes m front h) ∙ digit_goes false b is

  numeral_value : (n : ℕ) (bytes : List ℕ) → IsNumeral base n bytes → value_of base bytes ≡ n
  numeral_value n bytes (one_digit b is) = with_digit 0 b is ∙ from_nothing (digit b)
  numeral_value n bytes (next_digit m b front h is) =
      value_append 0 front (b ∷ []) ∙ (ap (λ v. and_byte base v b) (numeral_value m front h) ∙ with_digit m b is)
  numeral_value n bytes (behind_line m b front h is) =
      value_append 0 front (95 ∷ b ∷ []) ∙ (ap (λ v. and_byte base v b) (numeral_value m front h) ∙ with_digit m b is)

  one_more : (d : Bool) (n b : ℕ) (front : List ℕ) → IsNumeral base n front → is_digit base b ≡ true → IsNumeral base (n * base + digit b) (front ++ (between_digits d ++ b ∷ []))
  one_more true n b front h is = next_digit n b front h is
  one_more false n b front h is = behind_line n b front h is

  -- digits and `_` behind a number make a number
  longer : (d : Bool) (v : ℕ) (front bytes : List ℕ) → IsNumeral base v front → goes_on d base bytes ≡ true → IsNumeral base (value_from base v bytes) (front ++ (between_digits d ++ bytes))
  longer true v front [] h e = subst (IsNumeral base v) (sym (append-nil front)) h
  longer false v front [] h e = absurd cc
  longer d v front (b ∷ bs) h e = by (b == 95) refl d e (λ d v front h e. longer d v front bs h e)
    where
      by : (t : Bool) → (b == 95) ≡ t → (d : Bool) → cond t (d && goes_on false base bs) (is_digit base b && goes_on true base bs) ≡ true → ((d : Bool) (v : ℕ) (front : List ℕ) → IsNumeral base v front → goes_on d base bs ≡ true → IsNumeral base (value_from base v bs) (front ++ (between_digits d ++ bs))) → IsNumeral base (value_from base (cond t v (v * base + digit b)) bs) (front ++ (between_digits d ++ b ∷ bs))
      by true is true e again =
          let same : b ≡ 95 = eqb-true b 95 is in
          subst (λ c. IsNumeral base (value_from base v bs) (front ++ c ∷ bs)) (sym same) (again false v front h e)
      by true is false e again = absurd cc
      by false is d e again =
          let p = and_parts (is_digit base b) (goes_on true base bs) e in
          let more = again true (v * base + digit b) (front ++ (between_digits d ++ b ∷ [])) (one_more d v b front h p.0) p.1 in
          let cut : (front ++ (between_digits d ++ b ∷ [])) ++ bs ≡ front ++ (between_digits d ++ b ∷ bs) = append_assoc front (between_digits d ++ b ∷ []) bs ∙ ap (λ q. front ++ q) (append_assoc (between_digits d) (b ∷ []) bs) in
          subst (IsNumeral base (value_from base (v * base + digit b) bs)) cut more

  numeral_is : (bytes : List ℕ) → goes_on false base bytes ≡ true → IsNumeral base (value_of base bytes) bytes
  numeral_is [] e = absurd cc
  numeral_is (b ∷ bs) e = by (b == 95) e
    where
      by : (t : Bool) → cond t (false && goes_on false base bs) (is_digit base b && goes_on true base bs) ≡ true → IsNumeral base (value_from base (cond t 0 (0 * base + digit b)) bs) (b ∷ bs)
      by true e = absurd cc
      by false e =
          let p = and_parts (is_digit base b) (goes_on true base bs) e in
          subst (λ v. IsNumeral base (value_from base v bs) (b ∷ bs)) (sym (from_nothing (digit b))) (longer true (digit b) (b ∷ []) bs (one_digit b p.0) p.1)

pub numerals_spelled : NumeralsReadAreSpelled
numerals_spelled base bytes small e = numeral_is base small bytes e

pub numerals_read : NumeralsSpelledAreRead
numerals_read base n bytes small h = (numeral_goes base small n bytes h, numeral_value base small n bytes h)
