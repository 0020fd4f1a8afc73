-- A text of runs, signs, blanks and line ends is cut into its tokens.
use Rattle.std.proofs.Common.{◌≡◌, ◌<◌, ◌+◌, ◌-◌, ℕ, List, [], ◌∷◌, ◌++◌, take, drop, length, length-append, append_assoc, refl, ap, sym, subst, ◌∙◌, Bool, true, false, cond, ◌&&◌, ◌||◌, ◌==◌, arith, codes}
use Rattle.std.specs.Prelude.{Ok, slice_index, not}
use Rattle.std.specs.List.{prefix_len, list_any}
use Rattle.std.specs.Char.{is_ascii_digit}
use Rattle.std.proofs.lemmas.Bool.{and_parts, ne_eqb}
use Rattle.stl_lex.specs.declared.bytes.ByteClass.TheVariants as classes
use Rattle.stl_lex.specs.declared.piece.TokenKind.{TokenKind}
use Rattle.stl_lex.specs.declared.piece.TokenKind.TheVariants as kinds
use Rattle.stl_lex.specs.declared.piece.Form.TheVariants.{Lexeme}
use Rattle.stl_lex.specs.declared.place.Place.{Place}
use Rattle.stl_lex.specs.declared.token.Token.{Token}
use Rattle.stl_lex.specs.Bytes.{is_blank, is_run_byte, front_length, begins}
use Rattle.stl_lex.specs.Place.{next, over}
use Rattle.stl_lex.specs.Runs.{takes_sign, run_length, run_form}
use Rattle.stl_lex.specs.Pieces.{gap, lexeme, is_title, run, piece, begun, cut}
use Rattle.stl_lex.specs.Tokens.{token, tokens_of}
use Rattle.stl_lex.proofs.Cutting.{step, read_on}

-- some bytes that are a token of this kind, or a blank or the end of a line
pub data Item : Type 0 where
  part : TokenKind → List ℕ → Item
  space : ℕ → Item

abbrev pub bytes_of : Item → List ℕ
bytes_of (part kind w) = w
bytes_of (space b) = b ∷ []

abbrev pub written : List Item → List ℕ
written [] = []
written (x ∷ xs) = bytes_of x ++ written xs

-- the place behind an item
abbrev pub past : Place → Item → Place
past p (part kind w) = over (begun p (Lexeme kind)) w
past p (space b) = next p b

abbrev pub past_all : Place → List Item → Place
past_all p [] = p
past_all p (x ∷ xs) = past_all (past p x) xs

-- the tokens among the items
abbrev pub laid : Place → List Item → List Token
laid p [] = []
laid p (part kind w ∷ xs) = token p kind (length w) ∷ laid (past p (part kind w)) xs
laid p (space b ∷ xs) = laid (past p (space b)) xs

-- before these bytes the item is the first piece
abbrev pub IsCut : Item → List ℕ → Type 0
IsCut (part kind w) ys = (0 < length w) × ((opens : Bool) → piece opens (w ++ ys) ≡ lexeme kind (length w))
IsCut (space b) ys = (opens : Bool) → piece opens (b ∷ ys) ≡ gap 1

abbrev pub AreCut : List Item → List ℕ → Type 0
AreCut [] rest = Unit {0}
AreCut (x ∷ xs) rest = IsCut x (written xs ++ rest) × AreCut xs rest

pub take_all : (xs ys : List ℕ) → (take (length xs) (xs ++ ys) ≡ xs) × (drop (length xs) (xs ++ ys) ≡ ys)
take_all [] ys = (refl, refl)
take_all (x ∷ xs) ys = let h = take_all xs ys in (ap (λ (l : List ℕ). x ∷ l) h.0, h.1)

longer : (w ys : List ℕ) → 0 < length w → 0 < length (w ++ ys)
longer [] ys some = absurd (omega arith)
longer (b ∷ w) ys some = omega arith

part_read : (p : Place) (kind : TokenKind) (w ys : List ℕ) (ts : List Token) → piece p.opens_line (w ++ ys) ≡ lexeme kind (length w) → 0 < length w → tokens_of (cut 0 (over (begun p (Lexeme kind)) w) ys) ≡ Ok ts
    → tokens_of (cut 0 p (w ++ ys)) ≡ Ok (token p kind (length w) ∷ ts)
part_read p kind w ys ts e long rest =
    let deep : 0 < (piece p.opens_line (w ++ ys)).length = subst (λ y. 0 < y.length) (sym e) long in
    let cuts = take_all w ys in
    step p (w ++ ys) (longer w ys long) deep ∙ (ap (read_on p (w ++ ys)) e ∙ (rw (cuts.0, cuts.1, rest) refl))

space_read : (p : Place) (b : ℕ) (ys : List ℕ) (ts : List Token) → piece p.opens_line (b ∷ ys) ≡ gap 1 → tokens_of (cut 0 (next p b) ys) ≡ Ok ts → tokens_of (cut 0 p (b ∷ ys)) ≡ Ok ts
space_read p b ys ts e rest =
    let deep : 0 < (piece p.opens_line (b ∷ ys)).length = subst (λ y. 0 < y.length) (sym e) (omega arith) in
    step p (b ∷ ys) (omega arith) deep ∙ (ap (read_on p (b ∷ ys)) e ∙ rest)

-- the tokens of the items, and those of what follows
pub all_read : (p : Place) (xs : List Item) (rest : List ℕ) (ts : List Token) → AreCut xs rest → tokens_of (cut 0 (past_all p xs) rest) ≡ Ok ts → tokens_of (cut 0 p (written xs ++ rest)) ≡ Ok (laid p xs ++ ts)
all_read p [] rest ts are e = e
all_read p (part kind w ∷ xs) rest ts are e =
    ap (λ (bs : List ℕ). tokens_of (cut 0 p bs)) (append_assoc w (written xs) rest)
    ∙ part_read p kind w (written xs ++ rest) (laid (past p (part kind w)) xs ++ ts) (are.0.1 p.opens_line) are.0.0 (all_read (past p (part kind w)) xs rest ts are.1 e)
all_read p (space b ∷ xs) rest ts are e =
    space_read p b (written xs ++ rest) (laid (past p (space b)) xs ++ ts) (are.0 p.opens_line) (all_read (past p (space b)) xs rest ts are.1 e)

-- ---- what the tokens spell

-- each token has the bytes of its part
abbrev pub AreTold : List ℕ → Place → List Item → Type 0
AreTold text p [] = Unit {0}
AreTold text p (part kind w ∷ xs) = (take (p.at + length w - p.at) (drop p.at text) ≡ w) × AreTold text (past p (part kind w)) xs
AreTold text p (space b ∷ xs) = AreTold text (past p (space b)) xs

pub spelled : (text before w ys : List ℕ) (from to : ℕ) → text ≡ before ++ (w ++ ys) → from ≡ length before → to ≡ from + length w → take (to - from) (drop from text) ≡ w
spelled text before w ys from to is at end =
    let size : to - from ≡ length w = omega (arith, end) in
    ap (λ (n : ℕ). take n (drop from text)) size ∙ ap (λ (k : ℕ). take (length w) (drop k text)) at ∙ ap (λ (t : List ℕ). take (length w) (drop (length before) t)) is
    ∙ ap (λ (l : List ℕ). take (length w) l) (take_all before (w ++ ys)).1 ∙ (take_all w ys).0

next_at : (p : Place) (b : ℕ) → (next p b).at ≡ p.at + 1
next_at p b = by (b == 10)
  where
    by : (c : Bool) → (cond {A = Place} c (record { at = p.at + 1; line = p.line + 1; column = 1; opens_line = true }) (record { at = p.at + 1; line = p.line; column = p.column + 1; opens_line = p.opens_line })).at ≡ p.at + 1
    by true = refl
    by false = refl

over_at : (p : Place) (w : List ℕ) → (over p w).at ≡ p.at + length w
over_at p [] = omega arith
over_at p (b ∷ w) = omega (arith, over_at (next p b) w, next_at p b)

pub past_at : (p : Place) (x : Item) → (past p x).at ≡ p.at + length (bytes_of x)
past_at p (part kind w) = over_at (begun p (Lexeme kind)) w
past_at p (space b) = next_at p b

pub past_all_at : (p : Place) (xs : List Item) → (past_all p xs).at ≡ p.at + length (written xs)
past_all_at p [] = omega arith
past_all_at p (x ∷ xs) = omega (arith, past_all_at (past p x) xs, past_at p x, length-append (bytes_of x) (written xs))

pub told : (text before : List ℕ) (p : Place) (xs : List Item) (after : List ℕ) → text ≡ before ++ (written xs ++ after) → p.at ≡ length before → AreTold text p xs
told text before p [] after is at = tt
told text before p (part kind w ∷ xs) after is at =
    let here = is ∙ ap (λ (l : List ℕ). before ++ l) (append_assoc w (written xs) after) in (
      spelled text before w (written xs ++ after) p.at (p.at + length w) here at refl,
      told text (before ++ w) (past p (part kind w)) xs after (here ∙ sym (append_assoc before w (written xs ++ after)))
          (omega (arith, past_at p (part kind w), at, length-append before w)),
    )
told text before p (space b ∷ xs) after is at =
    told text (before ++ b ∷ []) (past p (space b)) xs after (is ∙ sym (append_assoc before (b ∷ []) (written xs ++ after)))
    (omega (arith, past_at p (space b), at, length-append before (b ∷ [])))

-- ---- pieces

-- a byte that ends a run
pub record IsEnd (c : ℕ) : Type 0 where
  pub run : is_run_byte c ≡ false
  pub sign : (head rest : List ℕ) → takes_sign head (c ∷ rest) ≡ false

pub blank_ends : IsEnd 32
blank_ends = record { run = refl; sign = λ head rest. refl }

pub line_ends : IsEnd 10
line_ends = record { run = refl; sign = λ head rest. refl }

pub semicolon_ends : IsEnd 59
semicolon_ends = record { run = refl; sign = λ head rest. refl }

abbrev pub all_of : (ℕ → Bool) → List ℕ → Bool
all_of p [] = true
all_of p (b ∷ bs) = p b && all_of p bs

pub front_end : (p : ℕ → Bool) (c : ℕ) (xs ys : List ℕ) → p c ≡ false → all_of p xs ≡ true → prefix_len p (xs ++ c ∷ ys) ≡ length xs
front_end p c [] ys ends all = rw ends refl
front_end p c (x ∷ xs) ys ends all =
    let parts = and_parts (p x) (all_of p xs) all in
    rw (parts.0, front_end p c xs ys ends parts.1) (omega arith)

clash : true ≡ false → ⊥
clash e = cc

other_byte : (a b : ℕ) → is_run_byte a ≡ true → is_run_byte b ≡ false → (a == b) ≡ false
other_byte a b is other = ne_eqb a b (λ e. clash (sym is ∙ ap is_run_byte e ∙ other))

-- the seventh rule, where the first six do not apply
seventh : {A : Type 0} → (c1 c2 c3 c4 c5 c6 c7 : Bool) (g l k t a c r others : A) → c1 ≡ false → c2 ≡ false → c3 ≡ false → c4 ≡ false → c5 ≡ false → c6 ≡ false → c7 ≡ true
    → cond c1 g (cond c2 l (cond c3 k (cond c4 t (cond c5 a (cond c6 c (cond c7 r others)))))) ≡ r
seventh c1 c2 c3 c4 c5 c6 c7 g l k t a c r others h1 h2 h3 h4 h5 h6 h7 = rw (h1, h2, h3, h4, h5, h6, h7) refl

or_false : (x y : Bool) → x ≡ false → y ≡ false → (x || y) ≡ false
or_false x y hx hy = rw (hx, hy) refl

and_no : (x y : Bool) → x ≡ false → (x && y) ≡ false
and_no x y h = rw h refl

and_not : (x y : Bool) → y ≡ false → (x && y) ≡ false
and_not true y h = h
and_not false y h = refl

no_title : (opens : Bool) (bytes : List ℕ) → begins (codes "TITLE") bytes ≡ false → (opens && is_title bytes) ≡ false
no_title opens bytes h = and_not opens (is_title bytes) (rw h refl)

run_piece : (opens : Bool) (a : ℕ) (bs : List ℕ) → is_run_byte a ≡ true → begins (codes "TITLE") (a ∷ bs) ≡ false → piece opens (a ∷ bs) ≡ run (a ∷ bs)
unfolding piece
run_piece opens a bs is title =
    seventh _ _ _ _ _ _ _ _ _ _ _ _ _ _ _
    (or_false _ _ (or_false (is_blank a) (a == 10) (or_false (a == 32) (a == 9) (other_byte a 32 is refl) (other_byte a 9 is refl)) (other_byte a 10 is refl)) (and_no (a == 13) _ (other_byte a 13 is refl)))
    (and_no (a == 47) _ (other_byte a 47 is refl))
    (and_no (a == 40) _ (other_byte a 40 is refl))
    (no_title opens (a ∷ bs) title) (other_byte a 123 is refl) (other_byte a 39 is refl) is

-- a run and a byte that ends it
run_whole : (kind : TokenKind) (w : List ℕ) (c : ℕ) (ys : List ℕ) → IsEnd c → all_of is_run_byte w ≡ true → run_form w ≡ Lexeme kind → run (w ++ c ∷ ys) ≡ lexeme kind (length w)
run_whole kind w c ys ends all form =
    let front : front_length classes.Run (w ++ c ∷ ys) ≡ length w = front_end is_run_byte c w ys ends.run all in
    let cuts = take_all w (c ∷ ys) in
    let sign = ends.sign w ys in
    let long : run_length (w ++ c ∷ ys) ≡ length w = rw (front, cuts.0, cuts.1, sign) refl in
    rw (long, cuts.0, form) refl

pub run_cut : (kind : TokenKind) (a : ℕ) (w : List ℕ) (c : ℕ) (ys : List ℕ) → IsEnd c → all_of is_run_byte (a ∷ w) ≡ true → run_form (a ∷ w) ≡ Lexeme kind → begins (codes "TITLE") (a ∷ (w ++ c ∷ ys)) ≡ false
    → IsCut (part kind (a ∷ w)) (c ∷ ys)
run_cut kind a w c ys ends all form title = (
  omega arith,
  λ opens. run_piece opens a (w ++ c ∷ ys) (and_parts (is_run_byte a) (all_of is_run_byte w) all).0 title ∙ run_whole kind (a ∷ w) c ys ends all form,
)

-- a word: a run without `#` that begins with no digit
abbrev pub is_word_run : List ℕ → Bool
is_word_run w = not (slice_index w 0 == 35) && (not (list_any (λ b. b == 35) w) && (not (is_ascii_digit (slice_index w 0)) && all_of is_run_byte w))

no_true : (t : Bool) → not t ≡ true → t ≡ false
no_true true e = absurd cc
no_true false e = refl

word_form : (w : List ℕ) → is_word_run w ≡ true → (run_form w ≡ Lexeme kinds.Word) × (all_of is_run_byte w ≡ true)
unfolding run_form
word_form w is =
    let a = and_parts (not (slice_index w 0 == 35)) _ is in
    let b = and_parts (not (list_any (λ b. b == 35) w)) _ a.1 in
    let c = and_parts (not (is_ascii_digit (slice_index w 0))) _ b.1 in
    let ha = no_true (slice_index w 0 == 35) a.0 in
    let hb = no_true (list_any (λ b. b == 35) w) b.0 in
    let hc = no_true (is_ascii_digit (slice_index w 0)) c.0 in
    (rw (ha, hb, hc) refl, c.1)

pub word_cut : (a : ℕ) (w : List ℕ) (c : ℕ) (ys : List ℕ) → IsEnd c → is_word_run (a ∷ w) ≡ true → begins (codes "TITLE") (a ∷ (w ++ c ∷ ys)) ≡ false → IsCut (part kinds.Word (a ∷ w)) (c ∷ ys)
word_cut a w c ys ends is title = let h = word_form (a ∷ w) is in run_cut kinds.Word a w c ys ends h.1 h.0 title

pub blank_cut : (ys : List ℕ) → IsCut (space 32) ys
unfolding piece
blank_cut ys opens = refl

pub line_cut : (ys : List ℕ) → IsCut (space 10) ys
unfolding piece
line_cut ys opens = refl

semicolon_piece : (opens : Bool) (ys : List ℕ) → piece opens (59 ∷ 10 ∷ ys) ≡ lexeme kinds.Sign 1
unfolding piece
semicolon_piece true ys = refl
semicolon_piece false ys = refl

pub semicolon_cut : (ys : List ℕ) → IsCut (part kinds.Sign (codes ";")) (10 ∷ ys)
semicolon_cut ys = (omega arith, λ opens. semicolon_piece opens ys)

colon_piece : (opens : Bool) (ys : List ℕ) → piece opens (58 ∷ 32 ∷ ys) ≡ lexeme kinds.Sign 1
unfolding piece
colon_piece true ys = refl
colon_piece false ys = refl

pub colon_cut : (ys : List ℕ) → IsCut (part kinds.Sign (codes ":")) (32 ∷ ys)
colon_cut ys = (omega arith, λ opens. colon_piece opens ys)

plus_piece : (opens : Bool) (ys : List ℕ) → piece opens (43 ∷ 73 ∷ ys) ≡ lexeme kinds.Sign 1
unfolding piece
plus_piece true ys = refl
plus_piece false ys = refl

pub plus_cut : (ys : List ℕ) → IsCut (part kinds.Sign (codes "+")) (73 ∷ ys)
plus_cut ys = (omega arith, λ opens. plus_piece opens ys)
