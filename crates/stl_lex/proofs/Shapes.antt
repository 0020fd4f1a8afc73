-- The length of a piece, and what a gap is.
use Rattle.std.proofs.Common.{◌≡◌, ◌≤◌, ◌<◌, ◌+◌, ◌-◌, ◌==◌, ◌&&◌, ◌||◌, ℕ, zero, suc, List, [], ◌∷◌, Bool, true, false, not, cond, length, take, drop, get_or, refl, ap, arith, inl, inr, sym, ◌∙◌, nat_lt}
use Rattle.std.specs.Prelude.{Option, Some, None, slice_index, codes}
use Rattle.std.specs.Char.{is_ascii_digit}
use Rattle.std.specs.List.{prefix_len, list_any}
use Rattle.std.proofs.lemmas.Bool.{eqb-true}
use borrow.Author.Tests.{ltb-true}
use Rattle.std.proofs.lemmas.List.{length-drop, length-take-le}
use Rattle.std.proofs.lemmas.List.Sums.{prefix_len-le-length}
use Rattle.stl_lex.specs.declared.bytes.ByteClass.TheVariants as classes
use Rattle.stl_lex.specs.declared.piece.TokenKind.{TokenKind}
use Rattle.stl_lex.specs.declared.piece.TokenKind.TheVariants as kinds
use Rattle.stl_lex.specs.declared.durations.TimeUnit.{TimeUnit}
use Rattle.stl_lex.specs.declared.literals.LiteralValue.{LiteralValue}
use Rattle.stl_lex.specs.declared.literals.LiteralValue.TheVariants as values
use Rattle.stl_lex.specs.declared.literals.Literal.{Literal}
use Rattle.stl_lex.specs.Literals.{farthest, unsigned, numeral_form, duration_form, value_form, literal_of, literal_by, literal_form}
use Rattle.stl_lex.specs.declared.piece.Form.{Form}
use Rattle.stl_lex.specs.declared.piece.Form.TheVariants.{Gap, Lexeme, Bad}
use Rattle.stl_lex.specs.declared.piece.Piece.{Piece}
use Rattle.stl_lex.specs.declared.fault.TokenFault.{TokenFault}
use Rattle.stl_lex.specs.declared.fault.TokenFault.TheVariants.{BadByte}
use Rattle.stl_lex.specs.Bytes.{is_blank, is_of, is_plus_or_minus, is_double_sign, is_sign, is_run_byte, front_length, begins}
use Rattle.stl_lex.specs.Runs.{run_length, takes_sign, run_form, digits_form, is_real_part}
use Rattle.stl_lex.specs.Pieces.{piece, gap, lexeme, bad, closes_at, comment_by, comment, is_title, line_length, attribute, characters, run}
use Rattle.stl_lex.specs.Spans.{IsGap}
use Rattle.stl_lex.proofs.Fronts.{front_some}

abbrev pub OfGap : Form → Type 0 → Type 0
OfGap Gap P = P
OfGap (Lexeme kind) P = Unit {0}
OfGap (Bad fault) P = Unit {0}

-- a piece at the front of these bytes
pub record IsPiece (bytes : List ℕ) (x : Piece) : Type 0 where
  pub some : 0 < x.length
  pub within : x.length ≤ length bytes
  pub gap : OfGap x.form (IsGap (take x.length bytes))

at : (bytes : List ℕ) (t : Bool) (x y : Piece) → (t ≡ true → IsPiece bytes x) → (t ≡ false → IsPiece bytes y) → IsPiece bytes (cond t x y)
at bytes true x y h k = h refl
at bytes false x y h k = k refl

first : (x y : Bool) → (x && y) ≡ true → x ≡ true
first true y e = refl
first false y e = absurd cc

second : (x y : Bool) → (x && y) ≡ true → y ≡ true
second true y e = e
second false y e = absurd cc

-- a byte that isn't 0 stands within
inside : (xs : List ℕ) (i : ℕ) → 0 < get_or xs i 0 → i < length xs
inside [] i h = absurd (omega arith)
inside (x ∷ xs) zero h = omega arith
inside (x ∷ xs) (suc i) h = let below = inside xs i h in omega arith

inside_at : (xs : List ℕ) (i v : ℕ) → (get_or xs i 0 == suc v) ≡ true → i < length xs
inside_at xs i v e = let is = eqb-true (get_or xs i 0) (suc v) e in inside xs i (omega arith)

space : (bytes : List ℕ) → 0 < length bytes → (is_blank (get_or bytes 0 0) || get_or bytes 0 0 == 10 || (get_or bytes 0 0 == 13 && get_or bytes 1 0 == 10)) ≡ true → IsPiece bytes (gap 1)
space [] some e = absurd (omega arith)
space (b ∷ bs) some e = record { some = omega arith; within = omega arith; gap = inl (b, refl, weaken (is_blank b || b == 10) (b == 13) (get_or (b ∷ bs) 1 0 == 10) e) }
  where
    weaken : (x y z : Bool) → (x || (y && z)) ≡ true → (x || y) ≡ true
    weaken true y z e = refl
    weaken false true z e = refl
    weaken false false z e = absurd cc

no_line_feed : (bs : List ℕ) → list_any (λ b. b == 10) (take (prefix_len (λ b. not (b == 10)) bs) bs) ≡ false
no_line_feed [] = refl
no_line_feed (b ∷ bs) = by (b == 10) refl (no_line_feed bs)
  where
    by : (t : Bool) → (b == 10) ≡ t → list_any (λ b. b == 10) (take (prefix_len (λ b. not (b == 10)) bs) bs) ≡ false → list_any (λ b. b == 10) (take (cond (not t) (1 + prefix_len (λ b. not (b == 10)) bs) 0) (b ∷ bs)) ≡ false
    by true e rest = refl
    by false e rest =
        let more : 1 + prefix_len (λ b. not (b == 10)) bs ≡ suc (prefix_len (λ b. not (b == 10)) bs) = omega arith in
        rw (more, e) rest

line_comment : (bytes : List ℕ) → (get_or bytes 0 0 == 47 && get_or bytes 1 0 == 47) ≡ true → IsPiece bytes (gap (line_length 2 bytes))
line_comment [] e = absurd cc
line_comment (x ∷ []) e = absurd (let h = second (x == 47) false e in cc)
line_comment (x ∷ y ∷ zs) e =
    let n = prefix_len (λ b. not (b == 10)) zs in
    let bound = prefix_len-le-length (λ b. not (b == 10)) zs in
    let isx = eqb-true x 47 (first (x == 47) (y == 47) e) in
    let isy = eqb-true y 47 (second (x == 47) (y == 47) e) in
    let two : 2 + n ≡ suc (suc n) = omega arith in
    record { some = omega arith; within = omega arith; gap = inr (inl (take n zs, rw (two, isx, isy) refl, no_line_feed zs)) }

-- what is known of the end of a comment
abbrev Closes : ℕ → ℕ → Bool → List ℕ → Type 0
Closes k n star bs = (k < n) × (n ≤ k + length bs) × (closes_at k star (take (n - k) bs) ≡ Some n)

closes : (k n : ℕ) (star : Bool) (bs : List ℕ) → closes_at k star bs ≡ Some n → Closes k n star bs
closes k n star [] e = absurd cc
closes k n star (b ∷ bs) e = by (star && b == 41) refl (λ h. closes (k + 1) n (b == 42) bs h) e
  where
    by : (t : Bool) → (star && b == 41) ≡ t → (closes_at (k + 1) (b == 42) bs ≡ Some n → Closes (k + 1) n (b == 42) bs) → cond t (Some (k + 1)) (closes_at (k + 1) (b == 42) bs) ≡ Some n → Closes k n star (b ∷ bs)
    by true is rest e =
        let last : k + 1 ≡ n = cc in
        let one : n - k ≡ suc zero = omega arith in
        (omega arith, omega arith, rw (one, is) (ap Some last))
    by false is rest e =
        let later = rest e in
        let far = later.0 in
        let bound = later.1 in
        let one : n - k ≡ suc (n - (k + 1)) = omega arith in
        (omega arith, omega arith, rw (one, is) later.2)

comment_shape : (bytes : List ℕ) → (get_or bytes 0 0 == 40 && get_or bytes 1 0 == 42) ≡ true → IsPiece bytes (comment bytes)
comment_shape [] e = absurd cc
comment_shape (x ∷ []) e = absurd (let h = second (x == 40) false e in cc)
comment_shape (x ∷ y ∷ zs) e = by (closes_at 0 false zs) refl
  where
    by : (o : Option ℕ) → closes_at 0 false zs ≡ o → IsPiece (x ∷ y ∷ zs) (comment_by o (x ∷ y ∷ zs))
    by None is = record { some = omega arith; within = omega arith; gap = tt }
    by (Some n) is =
        let end = closes 0 n false zs is in
        let isx = eqb-true x 40 (first (x == 40) (y == 42) e) in
        let isy = eqb-true y 42 (second (x == 40) (y == 42) e) in
        let two : n + 2 ≡ suc (suc n) = omega arith in
        let all : n - 0 ≡ n = omega arith in
        let fits : n ≤ length zs = let h = end.1 in omega arith in
        let same : closes_at 0 false (take n zs) ≡ Some n = rw all at end.2 in
        let long : length (take n zs) ≡ n = length-take-le n zs fits in
        record { some = omega arith; within = omega arith; gap = inr (inr (take n zs, rw (two, isx, isy) refl, same ∙ ap Some (sym long))) }

title_shape : (opens_line : Bool) (bytes : List ℕ) → (opens_line && is_title bytes) ≡ true → IsPiece bytes (lexeme kinds.Title (line_length 5 bytes))
title_shape opens_line bytes e =
    let blanks = front_length classes.Blank (drop 5 bytes) in
    let title = second opens_line (is_title bytes) e in
    let letters = first (begins (codes "TITLE") bytes && nat_lt 0 blanks) (get_or (drop 5 bytes) blanks 0 == 61) title in
    let some : 0 < blanks = ltb-true 0 blanks (second (begins (codes "TITLE") bytes) (nat_lt 0 blanks) letters) in
    let some_bound = prefix_len-le-length (is_of classes.Blank) (drop 5 bytes) in
    let bound = prefix_len-le-length (is_of classes.Line) (drop 5 bytes) in
    let rest = length-drop 5 bytes in
    record { some = omega arith; within = omega arith; gap = tt }

attribute_shape : (bytes : List ℕ) → 0 < length bytes → IsPiece bytes (attribute bytes)
attribute_shape bytes some =
    at bytes _ (lexeme kinds.Attribute (front_length classes.Inside bytes + 1)) (bad BadByte 1)
    (λ e. let h = inside_at bytes (front_length classes.Inside bytes) 124 e in record { some = omega arith; within = omega arith; gap = tt })
    (λ e. record { some = omega arith; within = omega arith; gap = tt })

characters_shape : (bytes : List ℕ) → 0 < length bytes → IsPiece bytes (characters bytes)
characters_shape bytes some =
    at bytes _ (lexeme kinds.Characters (front_length classes.Character (drop 1 bytes) + 2)) (bad BadByte 1)
    (λ e. let h = inside_at (drop 1 bytes) (front_length classes.Character (drop 1 bytes)) 38 (second _ _ e) in
    let rest = length-drop 1 bytes in
    record { some = omega arith; within = omega arith; gap = tt })
    (λ e. record { some = omega arith; within = omega arith; gap = tt })

sign_is_some : (b : ℕ) → is_plus_or_minus b ≡ true → 0 < b
sign_is_some zero e = absurd cc
sign_is_some (suc b) e = omega arith

run_some : (t : Bool) (n m : ℕ) → 0 < n → 0 < cond t (n + 1 + m) n
run_some true n m h = omega arith
run_some false n m h = h

run_within : (bytes : List ℕ) → run_length bytes ≤ length bytes
run_within bytes = by (takes_sign (take n bytes) (drop n bytes)) refl
  where
    n : ℕ
    n = front_length classes.Run bytes

    by : (t : Bool) → takes_sign (take (front_length classes.Run bytes) bytes) (drop (front_length classes.Run bytes) bytes) ≡ t → cond t (front_length classes.Run bytes + 1 + front_length classes.Run (drop 1 (drop (front_length classes.Run bytes) bytes))) (front_length classes.Run bytes) ≤ length bytes
    by true e =
        let n = front_length classes.Run bytes in
        let rest = drop n bytes in
        let sign = inside rest 0 (sign_is_some (get_or rest 0 0) (first _ _ e)) in
        let l1 = length-drop n bytes in
        let l2 = length-drop 1 rest in
        let b1 = prefix_len-le-length (is_of classes.Run) bytes in
        let b2 = prefix_len-le-length (is_of classes.Run) (drop 1 rest) in
        omega arith
    by false e = prefix_len-le-length (is_of classes.Run) bytes

abbrev NoGap : Form → Type 0
NoGap Gap = ⊥
NoGap (Lexeme kind) = Unit {0}
NoGap (Bad fault) = Unit {0}

record IsNoGap (f : Form) : Type 0 where
  no : NoGap f

of_no_gap : (f : Form) (P : Type 0) → IsNoGap f → OfGap f P
of_no_gap Gap P h = absurd h.no
of_no_gap (Lexeme kind) P h = tt
of_no_gap (Bad fault) P h = tt

either : (t : Bool) (x y : Form) → IsNoGap x → IsNoGap y → IsNoGap (cond t x y)
either true x y h k = h
either false x y h k = k

lexeme_no : (kind : TokenKind) → IsNoGap (Lexeme kind)
lexeme_no kind = record { no = tt }

bad_no : (fault : TokenFault) → IsNoGap (Bad fault)
bad_no fault = record { no = tt }

numeral_no : (kind : TokenKind) (base most : ℕ) (digits : List ℕ) → IsNoGap (numeral_form kind base most digits)
numeral_no kind base most digits = either _ _ _ (either _ _ _ (lexeme_no _) (bad_no _)) (bad_no _)

duration_no : (units : List TimeUnit) (most : ℕ) (bytes : List ℕ) → IsNoGap (duration_form units most bytes)
unfolding duration_form
duration_no units most bytes = either _ _ _ (either _ _ _ (lexeme_no _) (bad_no _)) (bad_no _)

value_no : (value : LiteralValue) (bytes : List ℕ) → IsNoGap (value_form value bytes)
value_no values.Integer bytes = numeral_no kinds.Literal 10 (farthest bytes) (unsigned bytes)
value_no (values.Hexadecimal most) bytes = numeral_no kinds.Literal 16 most bytes
value_no values.Counter bytes = numeral_no kinds.Literal 10 999 bytes
value_no values.Bits bytes = either _ _ _ (lexeme_no _) (bad_no _)
value_no values.Time bytes = duration_no _ _ _
value_no values.TimerStart bytes = duration_no _ _ _
value_no values.Pointer bytes = lexeme_no _

literal_no : (o : Option Literal) (run : List ℕ) → IsNoGap (literal_by o run)
literal_no None run = bad_no _
literal_no (Some row) run = value_no row.value _

-- a run is no gap
run_no : (run : List ℕ) → IsNoGap (run_form run)
unfolding run_form
run_no run =
    either (slice_index run 0 == 35) (Lexeme kinds.Local) _ (lexeme_no kinds.Local)
    (either (list_any (λ b. b == 35) run) (literal_form run) _ (literal_no (literal_of run) run)
    (either (is_ascii_digit (slice_index run 0)) (digits_form run) (Lexeme kinds.Word)
    (either (is_real_part run) (Lexeme kinds.RealPart) _ (lexeme_no kinds.RealPart) (numeral_no kinds.Number 10 4294967295 run))
    (lexeme_no kinds.Word)))

run_shape : (bytes : List ℕ) → 0 < length bytes → is_run_byte (get_or bytes 0 0) ≡ true → IsPiece bytes (run bytes)
run_shape bytes some e = record {
  some = run_some (takes_sign (take (front_length classes.Run bytes) bytes) (drop (front_length classes.Run bytes) bytes)) (front_length classes.Run bytes) _ (front_some (is_of classes.Run) bytes some e);
  within = run_within bytes;
  gap = of_no_gap (run_form (take (run_length bytes) bytes)) _ (run_no (take (run_length bytes) bytes));
}

double_is_some : (a b : ℕ) → is_double_sign a b ≡ true → 0 < b
double_is_some a (suc b) e = omega arith
double_is_some a zero e = absurd (by (a == 46) (a == 60) e)
  where
    by : (x y : Bool) → ((false || (x && false)) || (y && false)) ≡ true → ⊥
    by true true e = cc
    by true false e = cc
    by false true e = cc
    by false false e = cc

double_shape : (bytes : List ℕ) → is_double_sign (get_or bytes 0 0) (get_or bytes 1 0) ≡ true → IsPiece bytes (lexeme kinds.Sign 2)
double_shape bytes e =
    let h = inside bytes 1 (double_is_some (get_or bytes 0 0) (get_or bytes 1 0) e) in
    record { some = omega arith; within = omega arith; gap = tt }

-- what stands at the front is a piece of these bytes
pub shape : (opens_line : Bool) (bytes : List ℕ) → 0 < length bytes → IsPiece bytes (piece opens_line bytes)
unfolding piece
shape opens_line bytes some =
    at bytes _ _ _ (space bytes some) (λ _.
    at bytes _ _ _ (line_comment bytes) (λ _.
    at bytes _ _ _ (comment_shape bytes) (λ _.
    at bytes _ _ _ (title_shape opens_line bytes) (λ _.
    at bytes (slice_index bytes 0 == 123) _ _ (λ _. attribute_shape bytes some) (λ _.
    at bytes (slice_index bytes 0 == 39) _ _ (λ _. characters_shape bytes some) (λ _.
    at bytes _ _ _ (run_shape bytes some) (λ _.
    at bytes _ _ _ (double_shape bytes) (λ _.
    at bytes (is_sign (slice_index bytes 0)) (lexeme kinds.Sign 1) (bad BadByte 1)
    (λ _. record { some = omega arith; within = omega arith; gap = tt })
    (λ _. record { some = omega arith; within = omega arith; gap = tt })))))))))
