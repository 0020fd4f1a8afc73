-- The decimal numbers of a made source are its tokens, and are read as themselves.
use Rattle.std.proofs.Common.{◌≡◌, ◌<◌, ◌≤◌, ◌+◌, ◌-◌, ◌*◌, ◌^◌, ℕ, List, [], ◌∷◌, ◌++◌, take, drop, length, refl, ap, ◌∙◌, Bool, true, false, cond, ◌&&◌, ◌==◌, arith, codes}
use Rattle.std.specs.List.{list_any}
use Rattle.std.specs.Char.{is_ascii_digit, to_ascii_lowercase}
use Rattle.std.specs.Fmt.{decimal}
use Rattle.std.proofs.lemmas.Bool.{le-leb, ne_eqb, lt-ltb}
use Rattle.stl_lex.specs.declared.piece.TokenKind.TheVariants as kinds
use Rattle.stl_lex.specs.declared.piece.Form.TheVariants.{Lexeme}
use Rattle.stl_lex.specs.Bytes.{is_run_byte, begins}
use Rattle.stl_lex.specs.Numerals.{number_length, goes_on, is_numeral, value_from, value_of}
use Rattle.stl_lex.specs.Runs.{is_real_part, run_form}
use Rattle.plant_script.specs.Numbers as script
use Rattle.plant_script.specs.Words.{is_empty}
use Rattle.workload_laws.proofs.Digits.{AreDigits, decimal_is}
use Rattle.workload_laws.proofs.Cut.{IsCut, IsEnd, part, all_of, run_cut}

digit_is : (d : ℕ) → 48 ≤ d → d ≤ 57 → is_ascii_digit d ≡ true
digit_is d low high = rw (le-leb 48 d low, le-leb d 57 high) refl

digit_not : (d c : ℕ) → d ≤ 57 → 57 < c → (d == c) ≡ false
digit_not d c high above = ne_eqb d c (λ e. omega (arith, high, above, e))

digit_above : (d c : ℕ) → 48 ≤ d → c < 48 → (d == c) ≡ false
digit_above d c low below = ne_eqb d c (λ e. omega (arith, low, below, e))

digits_run : (ds : List ℕ) → AreDigits ds → all_of is_run_byte ds ≡ true
digits_run [] are = refl
digits_run (d ∷ ds) are = rw (le-leb 48 d are.0, le-leb d 57 are.1, digits_run ds are.2) refl

digits_front : (ds : List ℕ) → AreDigits ds → number_length ds ≡ length ds
digits_front [] are = refl
digits_front (d ∷ ds) are = rw (le-leb 48 d are.0, le-leb d 57 are.1, digits_front ds are.2) (omega arith)

-- no `#` stands among digits
digits_bare : (ds : List ℕ) → AreDigits ds → list_any (λ b. b == 35) ds ≡ false
digits_bare [] are = refl
digits_bare (d ∷ ds) are = rw (digit_above d 35 are.0 (omega arith), digits_bare ds are.2) refl

digits_go : (ds : List ℕ) → AreDigits ds → goes_on true 10 ds ≡ true
digits_go [] are = refl
digits_go (d ∷ ds) are =
    let value : d - 48 < 10 = let high = are.1 in omega arith in
    rw (digit_not d 95 are.1 (omega arith), le-leb 48 d are.0, le-leb d 57 are.1, lt-ltb (d - 48) 10 value, digits_go ds are.2) refl

digits_numeral : (d : ℕ) (ds : List ℕ) → AreDigits (d ∷ ds) → is_numeral 10 (d ∷ ds) ≡ true
digits_numeral d ds are =
    let value : d - 48 < 10 = let high = are.1 in omega arith in
    rw (digit_not d 95 are.1 (omega arith), le-leb 48 d are.0, le-leb d 57 are.1, lt-ltb (d - 48) 10 value, digits_go ds are.2) refl

digits_value : (n : ℕ) (ds : List ℕ) → AreDigits ds → value_from 10 n ds ≡ script.value_from n ds
digits_value n [] are = refl
digits_value n (d ∷ ds) are =
    rw (digit_not d 95 are.1 (omega arith), le-leb 48 d are.0, le-leb d 57 are.1) (digits_value (n * 10 + (d - 48)) ds are.2)

take_self : (xs : List ℕ) → (take (length xs) xs ≡ xs) × (drop (length xs) xs ≡ [])
take_self [] = (refl, refl)
take_self (x ∷ xs) = let h = take_self xs in (ap (λ (l : List ℕ). x ∷ l) h.0, h.1)

and_false : (b : Bool) → (b && false) ≡ false
and_false true = refl
and_false false = refl

digits_whole : (ds : List ℕ) → AreDigits ds → is_real_part ds ≡ false
digits_whole ds are =
    let self = take_self ds in
    let front = digits_front ds are in
    rw (front, self.0, self.1, and_false (is_numeral 10 ds)) refl

-- the choices that lead to a number
number_chosen : {A : Type 0} → (a b c w n v : Bool) (l1 l2 l3 number l4 l5 l6 : A) → a ≡ false → b ≡ false → c ≡ true → w ≡ false → n ≡ true → v ≡ true
    → cond a l1 (cond b l2 (cond c (cond w l3 (cond n (cond v number l4) l5)) l6)) ≡ number
number_chosen a b c w n v l1 l2 l3 number l4 l5 l6 ha hb hc hw hn hv = rw (ha, hb, hc, hw, hn, hv) refl

digits_form : (d : ℕ) (ds : List ℕ) → AreDigits (d ∷ ds) → value_of 10 (d ∷ ds) ≤ 4294967295 → run_form (d ∷ ds) ≡ Lexeme kinds.Number
unfolding run_form
digits_form d ds are small =
    number_chosen _ _ _ _ _ _ _ _ _ _ _ _ _ (digit_above d 35 are.0 (omega arith)) (digits_bare (d ∷ ds) are) (digit_is d are.0 are.1) (digits_whole (d ∷ ds) are) (digits_numeral d ds are)
    (le-leb (value_of 10 (d ∷ ds)) 4294967295 small)

lower_digit : (d : ℕ) → d ≤ 57 → (116 == to_ascii_lowercase d) ≡ false
lower_digit d high = rw (lt-ltb d 65 (omega arith), ne_eqb 116 d (λ e. omega (arith, high, e))) refl

digits_title : (d : ℕ) (bs : List ℕ) → d ≤ 57 → begins (codes "TITLE") (d ∷ bs) ≡ false
digits_title d bs high = rw (lower_digit d high) refl

pub decimal_value : (n : ℕ) → n < 2 ^ 64 → value_of 10 (decimal n) ≡ n
decimal_value n small = let is = decimal_is n small in digits_value 0 (decimal n) is.digits ∙ is.value

digits_cut : (ds : List ℕ) (c : ℕ) (ys : List ℕ) → is_empty ds ≡ false → AreDigits ds → value_of 10 ds ≤ 4294967295 → IsEnd c → IsCut (part kinds.Number ds) (c ∷ ys)
digits_cut [] c ys some are small ends = absurd cc
digits_cut (d ∷ ds) c ys some are small ends = run_cut kinds.Number d ds c ys ends (digits_run (d ∷ ds) are) (digits_form d ds are small) (digits_title d (ds ++ c ∷ ys) are.1)

pub decimal_cut : (n c : ℕ) (ys : List ℕ) → n ≤ 65535 → IsEnd c → IsCut (part kinds.Number (decimal n)) (c ∷ ys)
decimal_cut n c ys few ends =
    let small : n < 2 ^ 64 = omega arith in
    let is = decimal_is n small in
    digits_cut (decimal n) c ys is.some is.digits (omega (arith, decimal_value n small)) ends
