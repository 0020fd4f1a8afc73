-- Literals: what is spelled so is read, and what is read is spelled so.
use Rattle.std.proofs.Common.{◌≡◌, ◌≤◌, ◌^◌, ℕ, zero, suc, List, [], ◌∷◌, ◌++◌, length, take, drop, refl, subst, ap, sym, ◌∙◌, Bool, true, false, cond, ◌==◌, ◌&&◌, ◌||◌, not, min, nat_le, arith, inl, inr}
use Rattle.std.specs.Prelude.{Option, Some, None}
use Rattle.std.specs.List.{find, list_all}
use Rattle.std.specs.Str.{str_to_ascii_lowercase}
use Rattle.std.proofs.lemmas.Bool.{and_parts, eqb-true, eq-eqb, leb-true}
use Rattle.std.proofs.lemmas.List.{map-append, take-map, take-append-drop, length-map, drop_at}
use Rattle.std.proofs.lemmas.Slice.Eq.{bytes_eq-Decides}
use Rattle.stl_lex.specs.Bytes.{spells, begins, letters_of}
use Rattle.stl_lex.specs.Numerals.{goes_on, is_numeral, value_of, digit_count}
use Rattle.stl_lex.specs.Durations.{is_duration, milliseconds}
use Rattle.stl_lex.specs.Literals.{numeral_form, duration_form, unsigned, farthest, value_form, literal_of}
use Rattle.stl_lex.specs.Literals.{literal_by as form_by}
use Rattle.stl_lex.specs.LiteralTable.{literals, time_units, timer_units}
use Rattle.stl_lex.specs.declared.durations.TimeUnit.{TimeUnit}
use Rattle.stl_lex.specs.declared.fault.TokenFault.TheVariants.{BadNumber, OutOfRange}
use Rattle.stl_lex.specs.declared.piece.TokenKind.TheVariants as kinds
use Rattle.stl_lex.specs.declared.piece.Form.TheVariants.{Lexeme, Bad}
use Rattle.stl_lex.specs.declared.literals.LiteralValue.{LiteralValue}
use Rattle.stl_lex.specs.declared.literals.LiteralValue.TheVariants as values
use Rattle.stl_lex.specs.declared.literals.Literal.{Literal}
use Rattle.s5_time.specs.Bcd.{bcd_of}
use Rattle.stl_decl.specs.declared.constants.Constant.{Constant}
use Rattle.stl_decl.specs.declared.constants.ConstantForm.{ConstantForm}
use Rattle.stl_decl.specs.declared.constants.ConstantForm.TheVariants as forms
use Rattle.stl_decl.specs.Constants.{stored, is_negative, hexadecimal, timer_start, time_value, literal_by, literal_at}
use Rattle.reader_laws.specs.Tokens.{IsOneOf}
use Rattle.reader_laws.specs.Literals.{IsSignOf, plus, minus, is_within, IsValue, of_integer, of_hexadecimal, of_counter, of_bits, of_time, of_timer_start, IsLiteral, LiteralValuesReadAreSpelled, LiteralValuesSpelledAreRead}
use Rattle.reader_laws.specs.Literals.{unsigned as no_sign}
use Rattle.reader_laws.proofs.Rows.{found, each}
use Rattle.reader_laws.proofs.Numerals.{numerals_spelled, numerals_read}

-- prefixes that differ where both have a letter
abbrev part_ways : List ℕ → List ℕ → Bool
part_ways [] ys = false
part_ways (x ∷ xs) [] = false
part_ways (x ∷ xs) (y ∷ ys) = not (x == y) || part_ways xs ys

abbrev prefix_key : Literal → List ℕ
prefix_key row = str_to_ascii_lowercase (letters_of row.prefix)

-- each parts from all behind it
abbrev all_part : List Literal → Bool
all_part [] = true
all_part (row ∷ rows) = list_all (λ other. part_ways (prefix_key row) (prefix_key other)) rows && all_part rows

prefixes_part : all_part literals ≡ true
prefixes_part = refl

-- what goes the same way doesn't part
same_way : (n : ℕ) (x y z : List ℕ) → x ≡ take n (y ++ z) → part_ways x y ≡ false
same_way n [] y z e = refl
same_way n (a ∷ x) [] z e = refl
same_way zero (a ∷ x) (b ∷ y) z e = absurd cc
same_way (suc n) (a ∷ x) (b ∷ y) z e =
    let f : a ∷ x ≡ b ∷ take n (y ++ z) = e in
    let head : a ≡ b = cc in
    let tail : x ≡ take n (y ++ z) = cc in
    let same : (a == b) ≡ true = eq-eqb a b head in
    ap (λ t. not t || part_ways x y) same ∙ same_way n x y z tail

-- bytes that begin with one prefix begin with none that parts from it
other_prefix : (a b p bytes : List ℕ) → part_ways (str_to_ascii_lowercase a) (str_to_ascii_lowercase b) ≡ true → spells b p ≡ true → begins a (p ++ bytes) ≡ false
other_prefix a b p bytes parts h = by (begins a (p ++ bytes)) refl
  where
    by : (t : Bool) → begins a (p ++ bytes) ≡ t → t ≡ false
    by false e = refl
    by true e =
        let lower : str_to_ascii_lowercase b ≡ str_to_ascii_lowercase p = (bytes_eq-Decides _ _).0 h in
        let start : str_to_ascii_lowercase a ≡ str_to_ascii_lowercase (take (length a) (p ++ bytes)) = (bytes_eq-Decides _ _).0 e in
        let cut : str_to_ascii_lowercase (take (length a) (p ++ bytes)) ≡ take (length a) (str_to_ascii_lowercase b ++ str_to_ascii_lowercase bytes) =
        sym (take-map _ (length a) (p ++ bytes)) ∙ ap (λ q. take (length a) q) (map-append _ p bytes ∙ ap (λ q. q ++ str_to_ascii_lowercase bytes) (sym lower)) in
        let same = same_way (length a) (str_to_ascii_lowercase a) (str_to_ascii_lowercase b) (str_to_ascii_lowercase bytes) (start ∙ cut) in
        let wrong : true ≡ false = sym parts ∙ same in
        absurd cc

-- bytes begin with the letters that they have at their front
own_prefix : (a p bytes : List ℕ) → spells a p ≡ true → (take (length a) (p ++ bytes) ≡ p) × (drop (length a) (p ++ bytes) ≡ bytes)
own_prefix a p bytes h =
    let lower : str_to_ascii_lowercase a ≡ str_to_ascii_lowercase p = (bytes_eq-Decides _ _).0 h in
    let size : length p ≡ length a = sym (length-map p _) ∙ (sym (ap length lower) ∙ length-map a _) in
    (taken (length a) p bytes size, drop_at p bytes (length a) size)
  where
    taken : (n : ℕ) (xs ys : List ℕ) → length xs ≡ n → take n (xs ++ ys) ≡ xs
    taken zero [] ys e = refl
    taken zero (x ∷ xs) ys e = absurd (omega arith)
    taken (suc n) [] ys e = absurd (omega arith)
    taken (suc n) (x ∷ xs) ys e = let same : length xs ≡ n = omega arith in ap (λ q. x ∷ q) (taken n xs ys same)

row_found : (rows : List Literal) (row : Literal) (p bytes : List ℕ) → all_part rows ≡ true → IsOneOf row rows → spells (letters_of row.prefix) p ≡ true → find (λ r. begins (letters_of r.prefix) (p ++ bytes)) rows ≡ Some row
row_found [] row p bytes parts h e = absurd h
row_found (r ∷ rs) row p bytes parts (inl is) e =
    let own : take (length (letters_of row.prefix)) (p ++ bytes) ≡ p = (own_prefix (letters_of row.prefix) p bytes e).0 in
    let begun : begins (letters_of row.prefix) (p ++ bytes) ≡ true = ap (λ q. spells (letters_of row.prefix) q) own ∙ e in
    let first : begins (letters_of r.prefix) (p ++ bytes) ≡ true = ap (λ (q : Literal). begins (letters_of q.prefix) (p ++ bytes)) is ∙ begun in
    ap (λ t. cond t (Some r) (find (λ r. begins (letters_of r.prefix) (p ++ bytes)) rs)) first ∙ ap (λ q. Some q) is
row_found (r ∷ rs) row p bytes parts (inr h) e =
    let both = and_parts (list_all (λ other. part_ways (prefix_key r) (prefix_key other)) rs) (all_part rs) parts in
    let differs = each (λ other. part_ways (prefix_key r) (prefix_key other)) rs row both.0 h in
    ap (λ t. cond t (Some r) (find (λ r. begins (letters_of r.prefix) (p ++ bytes)) rs)) (other_prefix (letters_of r.prefix) (letters_of row.prefix) p bytes differs e)
    ∙ row_found rs row p bytes both.1 h e

-- no literal goes past 32 bits
abbrev is_small : LiteralValue → Bool
is_small (values.Hexadecimal most) = nat_le most 4294967295
is_small _ = true

rows_small : list_all (λ row. is_small row.value) literals ≡ true
rows_small = refl

kept : (n most : ℕ) → nat_le n most ≡ true → most ≤ 4294967295 → min n 4294967296 ≡ n
kept n most h small = let le = leb-true n most h in omega (arith, le, small)

within_kept : (negative : Bool) (n : ℕ) → is_within negative n ≡ true → min n 4294967296 ≡ n
within_kept true n h = kept n 2147483648 h (omega arith)
within_kept false n h = kept n 2147483647 h (omega arith)

-- a number or a duration that is a literal
numeral_ok : (base most : ℕ) (digits : List ℕ) → numeral_form kinds.Literal base most digits ≡ Lexeme kinds.Literal → (is_numeral base digits ≡ true) × (nat_le (value_of base digits) most ≡ true)
numeral_ok base most digits e = by (is_numeral base digits) (nat_le (value_of base digits) most) e
  where
    by : (a b : Bool) → cond a (cond b (Lexeme kinds.Literal) (Bad OutOfRange)) (Bad BadNumber) ≡ Lexeme kinds.Literal → (a ≡ true) × (b ≡ true)
    by true true e = (refl, refl)
    by true false e = absurd cc
    by false b e = absurd cc

duration_ok : (units : List TimeUnit) (most : ℕ) (bytes : List ℕ) → duration_form units most bytes ≡ Lexeme kinds.Literal → (is_duration units bytes ≡ true) × (nat_le (milliseconds units bytes) most ≡ true)
unfolding duration_form
duration_ok units most bytes e = by (is_duration units bytes) (nat_le (milliseconds units bytes) most) e
  where
    by : (a b : Bool) → cond a (cond b (Lexeme kinds.Literal) (Bad OutOfRange)) (Bad BadNumber) ≡ Lexeme kinds.Literal → (a ≡ true) × (b ≡ true)
    by true true e = (refl, refl)
    by true false e = absurd cc
    by false b e = absurd cc

numeral_made : (base most n : ℕ) (digits : List ℕ) → is_numeral base digits ≡ true → value_of base digits ≡ n → nat_le n most ≡ true → numeral_form kinds.Literal base most digits ≡ Lexeme kinds.Literal
numeral_made base most n digits is value within = rw (is, value, within) refl

duration_made : (units : List TimeUnit) (most : ℕ) (bytes : List ℕ) → is_duration units bytes ≡ true → nat_le (milliseconds units bytes) most ≡ true → duration_form units most bytes ≡ Lexeme kinds.Literal
unfolding duration_form
duration_made units most bytes is within = rw (is, within) refl

-- the sign before the other bytes
record HasSign (bytes : List ℕ) : Type 0 where
  negative : Bool
  sign : List ℕ
  others : List ℕ
  cut : bytes ≡ sign ++ others
  is : IsSignOf negative sign
  below : is_negative bytes ≡ negative
  behind : unsigned bytes ≡ others
  most : farthest bytes ≡ cond negative 2147483648 2147483647

sign_split : (bytes : List ℕ) → HasSign bytes
sign_split [] = record { negative = false; sign = []; others = []; cut = refl; is = no_sign; below = refl; behind = refl; most = refl }
sign_split (b ∷ bs) = by (b == 43) refl (b == 45) refl
  where
    by : (t : Bool) → (b == 43) ≡ t → (u : Bool) → (b == 45) ≡ u → HasSign (b ∷ bs)
    by true e u f =
        let same : b ≡ 43 = eqb-true b 43 e in
        subst (λ c. HasSign (c ∷ bs)) (sym same) (record { negative = false; sign = 43 ∷ []; others = bs; cut = refl; is = plus; below = refl; behind = refl; most = refl })
    by false e true f =
        let same : b ≡ 45 = eqb-true b 45 f in
        subst (λ c. HasSign (c ∷ bs)) (sym same) (record { negative = true; sign = 45 ∷ []; others = bs; cut = refl; is = minus; below = refl; behind = refl; most = refl })
    by false e false f = record { negative = false; sign = []; others = b ∷ bs; cut = refl; is = no_sign; below = f; behind = rw (e, f) refl; most = rw f refl }

-- bytes behind a sign that don't begin with one
record IsSplit (negative : Bool) (bytes others : List ℕ) : Type 0 where
  below : is_negative bytes ≡ negative
  behind : unsigned bytes ≡ others
  most : farthest bytes ≡ cond negative 2147483648 2147483647

plain_split : (b : ℕ) (bs : List ℕ) → (b == 43) ≡ false → (b == 45) ≡ false → IsSplit false (b ∷ bs) (b ∷ bs)
plain_split b bs e f = record { below = f; behind = rw (e, f) refl; most = rw f refl }

with_sign : (negative : Bool) (sign others : List ℕ) → IsSignOf negative sign → IsSplit false others others → IsSplit negative (sign ++ others) others
with_sign negative sign others no_sign h = h
with_sign negative sign others plus h = record { below = refl; behind = refl; most = refl }
with_sign negative sign others minus h = record { below = refl; behind = refl; most = refl }

-- a digit is no sign
digits_split : (digits : List ℕ) → is_numeral 10 digits ≡ true → IsSplit false digits digits
digits_split [] h = absurd cc
digits_split (b ∷ bs) h = by (b == 43) refl (b == 45) refl
  where
    by : (t : Bool) → (b == 43) ≡ t → (u : Bool) → (b == 45) ≡ u → IsSplit false (b ∷ bs) (b ∷ bs)
    by true e u f =
        let same : b ≡ 43 = eqb-true b 43 e in
        let wrong : goes_on false 10 (43 ∷ bs) ≡ true = subst (λ c. goes_on false 10 (c ∷ bs) ≡ true) same h in absurd cc
    by false e true f =
        let same : b ≡ 45 = eqb-true b 45 f in
        let wrong : goes_on false 10 (45 ∷ bs) ≡ true = subst (λ c. goes_on false 10 (c ∷ bs) ≡ true) same h in absurd cc
    by false e false f = plain_split b bs e f

never : (b : Bool) → b ≡ true → b ≡ false → ⊥
never true h k = cc
never false h k = cc

neither : (b : Bool) → (not b && b) ≡ false
neither true = refl
neither false = refl

-- a duration begins with no sign
no_plus : (bs : List ℕ) → is_duration time_units (43 ∷ bs) ≡ false
no_plus bs = neither (suc (length bs) == 0)

no_minus : (bs : List ℕ) → is_duration time_units (45 ∷ bs) ≡ false
no_minus bs = neither (suc (length bs) == 0)

parts_split : (parts : List ℕ) → is_duration time_units parts ≡ true → IsSplit false parts parts
parts_split [] h = absurd cc
parts_split (b ∷ bs) h = by (b == 43) refl (b == 45) refl
  where
    by : (t : Bool) → (b == 43) ≡ t → (u : Bool) → (b == 45) ≡ u → IsSplit false (b ∷ bs) (b ∷ bs)
    by true e u f =
        let same : b ≡ 43 = eqb-true b 43 e in
        let signed : is_duration time_units (43 ∷ bs) ≡ true = subst (λ c. is_duration time_units (c ∷ bs) ≡ true) same h in
        absurd (never (is_duration time_units (43 ∷ bs)) signed (no_plus bs))
    by false e true f =
        let same : b ≡ 45 = eqb-true b 45 f in
        let signed : is_duration time_units (45 ∷ bs) ≡ true = subst (λ c. is_duration time_units (c ∷ bs) ≡ true) same h in
        absurd (never (is_duration time_units (45 ∷ bs)) signed (no_minus bs))
    by false e false f = plain_split b bs e f

same_some : {A : Type 0} (x y : A) → Some x ≡ Some y → x ≡ y
same_some x y e = cc

abbrev constant : ConstantForm → ℕ → Constant
constant form n = record { form = form; value = n }

-- what is read behind a prefix is spelled so
value_takes : (v : LiteralValue) (bytes : List ℕ) (c : Constant) → is_small v ≡ true → value_form v bytes ≡ Lexeme kinds.Literal → literal_by v bytes ≡ Some c → IsValue v c bytes
unfolding time_value
value_takes values.Integer bytes c small form e =
    let s = sign_split bytes in
    let ok = numeral_ok 10 (farthest bytes) (unsigned bytes) form in
    let digits : is_numeral 10 s.others ≡ true = subst (λ q. is_numeral 10 q ≡ true) s.behind ok.0 in
    let within : is_within s.negative (value_of 10 s.others) ≡ true = subst (λ q. nat_le (value_of 10 q) (cond s.negative 2147483648 2147483647) ≡ true) s.behind (subst (λ m. nat_le (value_of 10 (unsigned bytes)) m ≡ true) s.most ok.1) in
    let value : stored (is_negative bytes) (2 ^ 32) (min (value_of 10 (unsigned bytes)) (2 ^ 32)) ≡ stored s.negative (2 ^ 32) (value_of 10 s.others) =
    ap (λ b. stored b (2 ^ 32) (min (value_of 10 (unsigned bytes)) (2 ^ 32))) s.below ∙ (ap (λ q. stored s.negative (2 ^ 32) (min (value_of 10 q) (2 ^ 32))) s.behind ∙ ap (λ n. stored s.negative (2 ^ 32) n) (within_kept s.negative (value_of 10 s.others) within)) in
    let same : constant forms.LongInteger (stored s.negative (2 ^ 32) (value_of 10 s.others)) ≡ c = ap (λ n. constant forms.LongInteger n) (sym value) ∙ same_some _ c e in
    subst (λ q. IsValue values.Integer c q) (sym s.cut) (subst (λ d. IsValue values.Integer d (s.sign ++ s.others)) same (of_integer s.negative (value_of 10 s.others) s.sign s.others s.is (numerals_spelled 10 s.others (omega arith) digits) within))
value_takes (values.Hexadecimal most) bytes c small form e =
    let ok = numeral_ok 16 most bytes form in
    let kept_value = kept (value_of 16 bytes) most ok.1 (leb-true most 4294967295 small) in
    let same : constant (hexadecimal most) (stored false (2 ^ 32) (value_of 16 bytes)) ≡ c = ap (λ n. constant (hexadecimal most) (stored false (2 ^ 32) n)) (sym kept_value) ∙ same_some _ c e in
    subst (λ d. IsValue (values.Hexadecimal most) d bytes) same (of_hexadecimal most (value_of 16 bytes) bytes (numerals_spelled 16 bytes (omega arith) ok.0) ok.1)
value_takes values.Counter bytes c small form e =
    let ok = numeral_ok 10 999 bytes form in
    let le = leb-true (value_of 10 bytes) 999 ok.1 in
    let kept_value : min (min (value_of 10 bytes) 4294967296) 999 ≡ value_of 10 bytes = omega (arith, le) in
    let same : constant forms.Counter (bcd_of (value_of 10 bytes)) ≡ c = ap (λ n. constant forms.Counter (bcd_of n)) (sym kept_value) ∙ same_some _ c e in
    subst (λ d. IsValue values.Counter d bytes) same (of_counter (value_of 10 bytes) bytes (numerals_spelled 10 bytes (omega arith) ok.0) ok.1)
value_takes values.Bits bytes c small form e = by (is_numeral 2 bytes) refl (nat_le (digit_count bytes) 32) refl form
  where
    by : (a : Bool) → is_numeral 2 bytes ≡ a → (b : Bool) → nat_le (digit_count bytes) 32 ≡ b → cond (a && b) (Lexeme kinds.Literal) (Bad BadNumber) ≡ Lexeme kinds.Literal → IsValue values.Bits c bytes
    by true is true few f =
        let le = leb-true (digit_count bytes) 32 few in
        let count : min (digit_count bytes) 255 ≡ digit_count bytes = omega (arith, le) in
        let same : constant (forms.Bits (digit_count bytes)) (stored false (2 ^ 32) (min (value_of 2 bytes) (2 ^ 32))) ≡ c = ap (λ n. constant (forms.Bits n) (stored false (2 ^ 32) (min (value_of 2 bytes) (2 ^ 32)))) (sym count) ∙ same_some _ c e in
        subst (λ d. IsValue values.Bits d bytes) same (of_bits (value_of 2 bytes) bytes (numerals_spelled 2 bytes (omega arith) is) few)
    by true is false few f = absurd cc
    by false is b few f = absurd cc
value_takes values.Time bytes c small form e =
    let s = sign_split bytes in
    let ok = duration_ok time_units (farthest bytes) (unsigned bytes) form in
    let parts : is_duration time_units s.others ≡ true = subst (λ q. is_duration time_units q ≡ true) s.behind ok.0 in
    let within : is_within s.negative (milliseconds time_units s.others) ≡ true = subst (λ q. nat_le (milliseconds time_units q) (cond s.negative 2147483648 2147483647) ≡ true) s.behind (subst (λ m. nat_le (milliseconds time_units (unsigned bytes)) m ≡ true) s.most ok.1) in
    let value : stored (is_negative bytes) (2 ^ 32) (min (milliseconds time_units (unsigned bytes)) (2 ^ 32)) ≡ stored s.negative (2 ^ 32) (milliseconds time_units s.others) =
    ap (λ b. stored b (2 ^ 32) (min (milliseconds time_units (unsigned bytes)) (2 ^ 32))) s.below ∙ (ap (λ q. stored s.negative (2 ^ 32) (min (milliseconds time_units q) (2 ^ 32))) s.behind ∙ ap (λ n. stored s.negative (2 ^ 32) n) (within_kept s.negative (milliseconds time_units s.others) within)) in
    let same : constant forms.Time (stored s.negative (2 ^ 32) (milliseconds time_units s.others)) ≡ c = ap (λ n. constant forms.Time n) (sym value) ∙ same_some _ c e in
    subst (λ q. IsValue values.Time c q) (sym s.cut) (subst (λ d. IsValue values.Time d (s.sign ++ s.others)) same (of_time s.negative s.sign s.others s.is parts within))
value_takes values.TimerStart bytes c small form e =
    let ok = duration_ok timer_units 9990000 bytes form in
    let kept_value = kept (milliseconds timer_units bytes) 9990000 ok.1 (omega arith) in
    let same : constant forms.TimerStart (timer_start (milliseconds timer_units bytes)) ≡ c = ap (λ n. constant forms.TimerStart (timer_start n)) (sym kept_value) ∙ same_some _ c e in
    subst (λ d. IsValue values.TimerStart d bytes) same (of_timer_start bytes ok.0 ok.1)
value_takes values.Pointer bytes c small form e = absurd cc

pub literal_spelled : LiteralValuesReadAreSpelled
unfolding literal_of
literal_spelled run c form e = by (literal_of run) refl form e
  where
    by : (o : Option Literal) → literal_of run ≡ o → form_by o run ≡ Lexeme kinds.Literal → literal_at o run ≡ Some c → IsLiteral c run
    by None is form e = absurd cc
    by (Some row) is form e =
        let h = found (λ (r : Literal). begins (letters_of r.prefix) run) literals row is in
        let small = each (λ (r : Literal). is_small r.value) literals row rows_small h.0 in
        record {
          row = row;
          listed = h.0;
          front = take (length (letters_of row.prefix)) run;
          bytes = drop (length (letters_of row.prefix)) run;
          cut = sym (take-append-drop (length (letters_of row.prefix)) run);
          letters = h.1;
          value = value_takes row.value (drop (length (letters_of row.prefix)) run) c small form e;
        }

-- what is spelled so behind a prefix is read
value_again : (v : LiteralValue) (c : Constant) (bytes : List ℕ) → is_small v ≡ true → IsValue v c bytes → (value_form v bytes ≡ Lexeme kinds.Literal) × (literal_by v bytes ≡ Some c)
unfolding time_value
value_again v c bytes small (of_integer negative n sign digits s h within) =
    let p = numerals_read 10 n digits (omega arith) h in
    let i = with_sign negative sign digits s (digits_split digits p.0) in (
      numeral_made 10 (farthest (sign ++ digits)) n (unsigned (sign ++ digits)) (subst (λ q. is_numeral 10 q ≡ true) (sym i.behind) p.0) (ap (λ q. value_of 10 q) i.behind ∙ p.1) (subst (λ m. nat_le n m ≡ true) (sym i.most) within),
      ap (λ b. Some (constant forms.LongInteger (stored b (2 ^ 32) (min (value_of 10 (unsigned (sign ++ digits))) (2 ^ 32))))) i.below
          ∙ (ap (λ q. Some (constant forms.LongInteger (stored negative (2 ^ 32) (min (value_of 10 q) (2 ^ 32))))) i.behind
          ∙ (ap (λ m. Some (constant forms.LongInteger (stored negative (2 ^ 32) (min m (2 ^ 32))))) p.1
          ∙ ap (λ m. Some (constant forms.LongInteger (stored negative (2 ^ 32) m))) (within_kept negative n within))),
    )
value_again v c bytes small (of_hexadecimal most n digits h within) =
    let p = numerals_read 16 n digits (omega arith) h in (
      numeral_made 16 most n digits p.0 p.1 within,
      ap (λ m. Some (constant (hexadecimal most) (stored false (2 ^ 32) (min m (2 ^ 32))))) p.1
          ∙ ap (λ m. Some (constant (hexadecimal most) (stored false (2 ^ 32) m))) (kept n most within (leb-true most 4294967295 small)),
    )
value_again v c bytes small (of_counter n digits h within) =
    let p = numerals_read 10 n digits (omega arith) h in
    let le = leb-true n 999 within in
    let same : min (min n 4294967296) 999 ≡ n = omega (arith, le) in (
      numeral_made 10 999 n digits p.0 p.1 within,
      ap (λ m. Some (constant forms.Counter (bcd_of (min (min m (2 ^ 32)) 999)))) p.1
          ∙ ap (λ m. Some (constant forms.Counter (bcd_of m))) same,
    )
value_again v c bytes small (of_bits n digits h few) =
    let p = numerals_read 2 n digits (omega arith) h in
    let le = leb-true (digit_count digits) 32 few in
    let count : min (digit_count digits) 255 ≡ digit_count digits = omega (arith, le) in (
      rw (p.0, few) refl,
      ap (λ m. Some (constant (forms.Bits (min (digit_count digits) 255)) (stored false (2 ^ 32) (min m (2 ^ 32))))) p.1
          ∙ ap (λ k. Some (constant (forms.Bits k) (stored false (2 ^ 32) (min n (2 ^ 32))))) count,
    )
value_again v c bytes small (of_time negative sign parts s h within) =
    let i = with_sign negative sign parts s (parts_split parts h) in (
      duration_made time_units (farthest (sign ++ parts)) (unsigned (sign ++ parts)) (subst (λ q. is_duration time_units q ≡ true) (sym i.behind) h) (subst (λ q. nat_le (milliseconds time_units q) (farthest (sign ++ parts)) ≡ true) (sym i.behind) (subst (λ m. nat_le (milliseconds time_units parts) m ≡ true) (sym i.most) within)),
      ap (λ b. Some (constant forms.Time (stored b (2 ^ 32) (min (milliseconds time_units (unsigned (sign ++ parts))) (2 ^ 32))))) i.below
          ∙ (ap (λ q. Some (constant forms.Time (stored negative (2 ^ 32) (min (milliseconds time_units q) (2 ^ 32))))) i.behind
          ∙ ap (λ m. Some (constant forms.Time (stored negative (2 ^ 32) m))) (within_kept negative (milliseconds time_units parts) within)),
    )
value_again v c bytes small (of_timer_start parts h within) = (
  duration_made timer_units 9990000 parts h within,
  ap (λ m. Some (constant forms.TimerStart (timer_start m))) (kept (milliseconds timer_units parts) 9990000 within (omega arith)),
)

pub literal_read : LiteralValuesSpelledAreRead
unfolding literal_of
literal_read run c h =
    let small = each (λ (r : Literal). is_small r.value) literals h.row rows_small h.listed in
    let here : literal_of (h.front ++ h.bytes) ≡ Some h.row = row_found literals h.row h.front h.bytes prefixes_part h.listed h.letters in
    let found : literal_of run ≡ Some h.row = ap (λ q. literal_of q) h.cut ∙ here in
    let own : drop (length (letters_of h.row.prefix)) run ≡ h.bytes = ap (λ q. drop (length (letters_of h.row.prefix)) q) h.cut ∙ (own_prefix (letters_of h.row.prefix) h.front h.bytes h.letters).1 in
    let v = value_again h.row.value c h.bytes small h.value in (
      ap (λ o. form_by o run) found ∙ (ap (λ q. value_form h.row.value q) own ∙ v.0),
      ap (λ o. literal_at o run) found ∙ (ap (λ q. literal_by h.row.value q) own ∙ v.1),
    )
