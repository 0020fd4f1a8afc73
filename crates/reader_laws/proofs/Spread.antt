-- The tokens of parts with blanks between them.
use Rattle.std.proofs.Common.{◌≡◌, ◌<◌, ◌≤◌, ◌+◌, ◌-◌, ℕ, zero, suc, List, [], ◌∷◌, ◌++◌, take, drop, length, refl, ap, sym, subst, ◌∙◌, Bool, true, false, cond, ◌&&◌, ◌==◌, arith}
use Rattle.std.specs.Prelude.{Result, Ok, Err, Option, Some, None, slice_index, nat_lt, nat_le, codes}
use Rattle.std.specs.List.{prefix_len}
use Rattle.std.specs.Char.{to_ascii_lowercase}
use Rattle.std.proofs.lemmas.Bool.{and_left, and_right, eqb-true}
use Rattle.stl_lex.specs.declared.bytes.ByteClass.TheVariants as classes
use Rattle.stl_lex.specs.declared.piece.TokenKind.{TokenKind}
use Rattle.stl_lex.specs.declared.piece.TokenKind.TheVariants as kinds
use Rattle.stl_lex.specs.declared.piece.Form.{Form}
use Rattle.stl_lex.specs.declared.piece.Form.TheVariants.{Gap, Lexeme, Bad}
use Rattle.stl_lex.specs.declared.place.Place.{Place}
use Rattle.stl_lex.specs.declared.fault.LoadFault.{LoadFault}
use Rattle.stl_lex.specs.declared.fault.TokenFault.{TokenFault}
use Rattle.stl_lex.specs.declared.fault.TokenFault.TheVariants.{BadByte, UnclosedComment}
use Rattle.stl_lex.specs.declared.token.Token.{Token}
use Rattle.stl_lex.specs.Bytes.{is_of, is_run_byte, is_double_sign, is_sign, front_length, begins}
use Rattle.stl_lex.specs.Place.{start, next, over}
use Rattle.stl_lex.specs.Runs.{takes_sign, run_length, run_form}
use Rattle.stl_lex.specs.Pieces.{gap, lexeme, bad, closes_at, comment_by, is_title, line_length, attribute, characters, run, piece, begun, cut}
use Rattle.stl_lex.specs.Tokens.{token, joined, tokens_of, text_tokens}
use Rattle.stl_lex.proofs.Cutting.{step, read_on}
use Rattle.reader_laws.specs.Pieces.{Part, AreParts, spread, behind, laid, PartsAreTokens}

module _ (p : ℕ → Bool) where
  -- a blank ends what it doesn't belong to
  front_blank : (xs ys : List ℕ) → p 32 ≡ false → prefix_len p (xs ++ 32 ∷ ys) ≡ prefix_len p xs
  front_blank [] ys h = rw h refl
  front_blank (x ∷ xs) ys h = ap (λ n. cond (p x) (1 + n) 0) (front_blank xs ys h)

  -- what ends at a closing byte ends there whatever follows
  closes : (c : ℕ) (xs ys : List ℕ) → (0 ≡ c → ⊥) → slice_index xs (prefix_len p xs) ≡ c → (prefix_len p (xs ++ ys) ≡ prefix_len p xs) × (slice_index (xs ++ ys) (prefix_len p xs) ≡ c)
  closes c [] ys some e = absurd (some e)
  closes c (x ∷ xs) ys some e = by (closes c xs ys some) (p x) e
    where
      by : (slice_index xs (prefix_len p xs) ≡ c → (prefix_len p (xs ++ ys) ≡ prefix_len p xs) × (slice_index (xs ++ ys) (prefix_len p xs) ≡ c)) → (b : Bool) → slice_index (x ∷ xs) (cond b (1 + prefix_len p xs) 0) ≡ c → (cond b (1 + prefix_len p (xs ++ ys)) 0 ≡ cond b (1 + prefix_len p xs) 0) × (slice_index (x ∷ (xs ++ ys)) (cond b (1 + prefix_len p xs) 0) ≡ c)
      by later true e =
          let one : 1 + prefix_len p xs ≡ suc (prefix_len p xs) = omega arith in
          let there : slice_index xs (prefix_len p xs) ≡ c = rw one at e in
          let h = later there in
          (ap (λ n. 1 + n) h.0, rw one h.1)
      by later false e = (refl, e)

  in_front : (xs ys : List ℕ) → (take (prefix_len p xs) (xs ++ ys) ≡ take (prefix_len p xs) xs) × (drop (prefix_len p xs) (xs ++ ys) ≡ drop (prefix_len p xs) xs ++ ys)
  in_front [] ys = (refl, refl)
  in_front (x ∷ xs) ys = by (in_front xs ys) (p x)
    where
      by : (take (prefix_len p xs) (xs ++ ys) ≡ take (prefix_len p xs) xs) × (drop (prefix_len p xs) (xs ++ ys) ≡ drop (prefix_len p xs) xs ++ ys) → (b : Bool) → (take (cond b (1 + prefix_len p xs) 0) (x ∷ (xs ++ ys)) ≡ take (cond b (1 + prefix_len p xs) 0) (x ∷ xs)) × (drop (cond b (1 + prefix_len p xs) 0) (x ∷ (xs ++ ys)) ≡ drop (cond b (1 + prefix_len p xs) 0) (x ∷ xs) ++ ys)
      by h true = let one : 1 + prefix_len p xs ≡ suc (prefix_len p xs) = omega arith in (rw one (ap (λ l. x ∷ l) h.0), rw one h.1)
      by h false = (refl, refl)

take_all : (xs ys : List ℕ) → (take (length xs) (xs ++ ys) ≡ xs) × (drop (length xs) (xs ++ ys) ≡ ys)
take_all [] ys = (refl, refl)
take_all (x ∷ xs) ys = let h = take_all xs ys in (ap (λ l. x ∷ l) h.0, h.1)

take_self : (xs : List ℕ) → take (length xs) xs ≡ xs
take_self [] = refl
take_self (x ∷ xs) = ap (λ l. x ∷ l) (take_self xs)

module _ (kind : TokenKind) (n : ℕ) where
  no_bad : (fault : TokenFault) (m : ℕ) → bad fault m ≡ lexeme kind n → ⊥
  no_bad fault m e = let form : Bad fault ≡ Lexeme kind = ap (λ x. x.form) e in cc

  no_gap : (m : ℕ) → gap m ≡ lexeme kind n → ⊥
  no_gap m e = let form : Gap ≡ Lexeme kind = ap (λ x. x.form) e in cc

  no_comment : (o : Option ℕ) (bytes : List ℕ) → comment_by o bytes ≡ lexeme kind n → ⊥
  no_comment (Some m) bytes e = no_gap (m + 2) e
  no_comment None bytes e = no_bad UnclosedComment (length bytes) e

  attribute_same : (w ys : List ℕ) → attribute w ≡ lexeme kind n → attribute (w ++ ys) ≡ lexeme kind n
  attribute_same w ys e = by (slice_index w (front_length classes.Inside w) == 125) refl e
    where
      by : (b : Bool) → (slice_index w (front_length classes.Inside w) == 125) ≡ b → cond b (lexeme kinds.Attribute (front_length classes.Inside w + 1)) (bad BadByte 1) ≡ lexeme kind n → attribute (w ++ ys) ≡ lexeme kind n
      by true is e =
          let h = closes (is_of classes.Inside) 125 w ys (λ z. cc) (eqb-true (slice_index w (front_length classes.Inside w)) 125 is) in
          rw (h.0, h.1) e
      by false is e = absurd (no_bad BadByte 1 e)

  characters_same : (a : ℕ) (bs ys : List ℕ) → characters (a ∷ bs) ≡ lexeme kind n → characters (a ∷ (bs ++ ys)) ≡ lexeme kind n
  characters_same a bs ys e = by (nat_lt 0 m && nat_le m 4) refl (slice_index bs m == 39) refl e
    where
      m : ℕ
      m = front_length classes.Character bs

      by : (b : Bool) → (nat_lt 0 m && nat_le m 4) ≡ b → (c : Bool) → (slice_index bs m == 39) ≡ c → cond (b && c) (lexeme kinds.Characters (m + 2)) (bad BadByte 1) ≡ lexeme kind n → characters (a ∷ (bs ++ ys)) ≡ lexeme kind n
      by true few true is e =
          let h = closes (is_of classes.Character) 39 bs ys (λ z. cc) (eqb-true (slice_index bs m) 39 is) in
          rw (h.0, h.1, few) e
      by true few false is e = absurd (no_bad BadByte 1 e)
      by false few c is e = absurd (no_bad BadByte 1 e)

sign_same : (head rest ys : List ℕ) → takes_sign head (rest ++ 32 ∷ ys) ≡ takes_sign head rest
sign_same head [] ys = refl
sign_same head (a ∷ []) ys = refl
sign_same head (a ∷ b ∷ rest) ys = refl

signed_same : (n : ℕ) (head rest ys : List ℕ) → cond (takes_sign head (rest ++ 32 ∷ ys)) (n + 1 + front_length classes.Run (drop 1 (rest ++ 32 ∷ ys))) n ≡ cond (takes_sign head rest) (n + 1 + front_length classes.Run (drop 1 rest)) n
signed_same n head [] ys = refl
signed_same n head (a ∷ rest) ys =
    ap (λ b. cond b (n + 1 + front_length classes.Run (rest ++ 32 ∷ ys)) n) (sign_same head (a ∷ rest) ys)
    ∙ ap (λ m. cond (takes_sign head (a ∷ rest)) (n + 1 + m) n) (front_blank (is_of classes.Run) rest ys refl)

length_same : (w ys : List ℕ) → run_length (w ++ 32 ∷ ys) ≡ run_length w
length_same w ys =
    let n = front_blank (is_of classes.Run) w ys refl in
    let h = in_front (is_of classes.Run) w (32 ∷ ys) in
    rw (n, h.0, h.1) (signed_same (front_length classes.Run w) (take (front_length classes.Run w) w) (drop (front_length classes.Run w) w) ys)

run_same : (kind : TokenKind) (w ys : List ℕ) → run w ≡ lexeme kind (length w) → run (w ++ 32 ∷ ys) ≡ lexeme kind (length w)
run_same kind w ys e =
    let long : run_length w ≡ length w = ap (λ x. x.length) e in
    let long_too : run_length (w ++ 32 ∷ ys) ≡ length w = length_same w ys ∙ long in
    let form : run_form (take (run_length w) w) ≡ Lexeme kind = ap (λ x. x.form) e in
    let here : take (run_length w) w ≡ w = ap (λ k. take k w) long ∙ take_self w in
    let form_too : run_form w ≡ Lexeme kind = ap run_form (sym here) ∙ form in
    rw (long_too, (take_all w (32 ∷ ys)).0, form_too) refl

-- no title begins with a part and a blank
no_title : (w ys : List ℕ) → begins (codes "TITLE") w ≡ false → begins (codes "TITLE") (w ++ 32 ∷ ys) ≡ false
no_title [] ys h = refl
no_title (a ∷ []) ys h = and_right (116 == to_ascii_lowercase a) _ refl
no_title (a ∷ b ∷ []) ys h = and_right (116 == to_ascii_lowercase a) _ (and_right (105 == to_ascii_lowercase b) _ refl)
no_title (a ∷ b ∷ c ∷ []) ys h = and_right (116 == to_ascii_lowercase a) _ (and_right (105 == to_ascii_lowercase b) _ (and_right (116 == to_ascii_lowercase c) _ refl))
no_title (a ∷ b ∷ c ∷ d ∷ []) ys h = and_right (116 == to_ascii_lowercase a) _ (and_right (105 == to_ascii_lowercase b) _ (and_right (116 == to_ascii_lowercase c) _ (and_right (108 == to_ascii_lowercase d) _ refl)))
no_title (a ∷ b ∷ c ∷ d ∷ e ∷ w) ys h = h

-- the first rule that applies
abbrev choose : {A : Type 0} → (c1 c2 c3 c4 c5 c6 c7 c8 c9 : Bool) (g l k t a c r s2 s1 x : A) → A
choose c1 c2 c3 c4 c5 c6 c7 c8 c9 g l k t a c r s2 s1 x = cond c1 g (cond c2 l (cond c3 k (cond c4 t (cond c5 a (cond c6 c (cond c7 r (cond c8 s2 (cond c9 s1 x))))))))

chosen : {A : Type 0} (c1 c2 c3 c4 d4 c5 c6 c7 c8 c9 : Bool) (g l m k j t u a b c d r q s2 s1 x y : A) → (g ≡ y → ⊥) → (l ≡ y → ⊥) → (k ≡ y → ⊥) → c4 ≡ false → d4 ≡ false → (a ≡ y → b ≡ y) → (c ≡ y → d ≡ y) → (r ≡ y → q ≡ y) → choose c1 c2 c3 c4 c5 c6 c7 c8 c9 g l k t a c r s2 s1 x ≡ y → choose c1 c2 c3 d4 c5 c6 c7 c8 c9 g m j u b d q s2 s1 x ≡ y
chosen true c2 c3 c4 d4 c5 c6 c7 c8 c9 g l m k j t u a b c d r q s2 s1 x y hg hl hk h4 h5 ha hc hr e = absurd (hg e)
chosen false true c3 c4 d4 c5 c6 c7 c8 c9 g l m k j t u a b c d r q s2 s1 x y hg hl hk h4 h5 ha hc hr e = absurd (hl e)
chosen false false true c4 d4 c5 c6 c7 c8 c9 g l m k j t u a b c d r q s2 s1 x y hg hl hk h4 h5 ha hc hr e = absurd (hk e)
chosen false false false true d4 c5 c6 c7 c8 c9 g l m k j t u a b c d r q s2 s1 x y hg hl hk h4 h5 ha hc hr e = absurd cc
chosen false false false false true c5 c6 c7 c8 c9 g l m k j t u a b c d r q s2 s1 x y hg hl hk h4 h5 ha hc hr e = absurd cc
chosen false false false false false true c6 c7 c8 c9 g l m k j t u a b c d r q s2 s1 x y hg hl hk h4 h5 ha hc hr e = ha e
chosen false false false false false false true c7 c8 c9 g l m k j t u a b c d r q s2 s1 x y hg hl hk h4 h5 ha hc hr e = hc e
chosen false false false false false false false true c8 c9 g l m k j t u a b c d r q s2 s1 x y hg hl hk h4 h5 ha hc hr e = hr e
chosen false false false false false false false false c8 c9 g l m k j t u a b c d r q s2 s1 x y hg hl hk h4 h5 ha hc hr e = e

module _ (kind : TokenKind) where
  title_no : (opens : Bool) (w : List ℕ) → begins (codes "TITLE") w ≡ false → (opens && is_title w) ≡ false
  title_no opens w h = and_right opens (is_title w) (and_left _ _ (and_left (begins (codes "TITLE") w) _ h))

  -- a part is the same token before a blank, and in any place of a line
  piece_same : (opens : Bool) (w ys : List ℕ) → begins (codes "TITLE") w ≡ false → piece true w ≡ lexeme kind (length w) → piece opens (w ++ 32 ∷ ys) ≡ lexeme kind (length w)
  unfolding piece
  piece_same opens [] ys h e = absurd (no_bad kind 0 BadByte 1 e)
  piece_same opens (a ∷ []) ys h e =
      chosen _ _ _ _ _ (a == 123) (a == 39) (is_run_byte a) (is_double_sign a 0) (is_sign a) _ _ _ _ _ _ _ _ _ _ _ _ _ (lexeme kinds.Sign 2) (lexeme kinds.Sign 1) (bad BadByte 1) _
      (no_gap kind 1 1) (no_gap kind 1 (line_length 2 (a ∷ []))) (no_comment kind 1 (closes_at 0 false []) (a ∷ []))
      (title_no true (a ∷ []) h) (title_no opens (a ∷ 32 ∷ ys) (no_title (a ∷ []) ys h))
      (attribute_same kind 1 (a ∷ []) (32 ∷ ys)) (characters_same kind 1 a [] (32 ∷ ys)) (run_same kind (a ∷ []) ys) e
  piece_same opens (a ∷ b ∷ w) ys h e =
      let n = length (a ∷ b ∷ w) in
      chosen _ _ _ _ _ (a == 123) (a == 39) (is_run_byte a) (is_double_sign a b) (is_sign a) _ _ _ _ _ _ _ _ _ _ _ _ _ (lexeme kinds.Sign 2) (lexeme kinds.Sign 1) (bad BadByte 1) _
      (no_gap kind n 1) (no_gap kind n (line_length 2 (a ∷ b ∷ w))) (no_comment kind n (closes_at 0 false w) (a ∷ b ∷ w))
      (title_no true (a ∷ b ∷ w) h) (title_no opens (a ∷ b ∷ (w ++ 32 ∷ ys)) (no_title (a ∷ b ∷ w) ys h))
      (attribute_same kind n (a ∷ b ∷ w) (32 ∷ ys)) (characters_same kind n a (b ∷ w) (32 ∷ ys)) (run_same kind (a ∷ b ∷ w) ys) e

blank_piece : (opens : Bool) (ys : List ℕ) → piece opens (32 ∷ ys) ≡ gap 1
unfolding piece
blank_piece opens ys = refl

next_at : (p : Place) (b : ℕ) → (next p b).at ≡ p.at + 1
next_at p b = by (b == 10)
  where
    by : (c : Bool) → (cond {A = Place} c (record { at = p.at + 1; line = p.line + 1; column = 1; opens_line = true }) (record { at = p.at + 1; line = p.line; column = p.column + 1; opens_line = p.opens_line })).at ≡ p.at + 1
    by true = refl
    by false = refl

-- no token begins before the place that reading begins at
first_at : (m : ℕ) (p : Place) (bs : List ℕ) (t : Token) (us : List Token) → tokens_of (cut m p bs) ≡ Ok (t ∷ us) → p.at ≤ t.from
unfolding cut tokens_of
first_at m p [] t us e = absurd cc
first_at (suc m) p (b ∷ bs) t us e = let h = first_at m (next p b) bs t us e in let at = next_at p b in omega (arith, h, at)
first_at zero p (b ∷ bs) t us e =
    by (piece p.opens_line (b ∷ bs)).form (piece p.opens_line (b ∷ bs)).length (begun p (piece p.opens_line (b ∷ bs)).form) (tokens_of (cut ((piece p.opens_line (b ∷ bs)).length - 1) (next (begun p (piece p.opens_line (b ∷ bs)).form) b) bs)) (λ h. later (piece p.opens_line (b ∷ bs)).form (first_at ((piece p.opens_line (b ∷ bs)).length - 1) (next (begun p (piece p.opens_line (b ∷ bs)).form) b) bs t us h)) e
  where
    later : (form : Form) → (next (begun p form) b).at ≤ t.from → p.at ≤ t.from
    later Gap h = let at = next_at p b in omega (arith, h, at)
    later (Lexeme kind) h = let at = next_at (begun p (Lexeme kind)) b in omega (arith, h, at)
    later (Bad fault) h = let at = next_at p b in omega (arith, h, at)

    by : (form : Form) (n : ℕ) (q : Place) (others : Result (List Token) LoadFault) → (others ≡ Ok (t ∷ us) → p.at ≤ t.from) → joined p form n others ≡ Ok (t ∷ us) → p.at ≤ t.from
    by Gap n q others h e = h e
    by (Bad fault) n q others h e = absurd cc
    by (Lexeme kind) n q (Err f) h e = absurd cc
    by (Lexeme kind) n q (Ok ts) h e = let same : token p kind n ≡ t = cc in let from : p.at ≡ t.from = ap (λ u. u.from) same in omega (arith, from)

-- what is one token by itself is that piece
part_piece : (kind : TokenKind) (w : List ℕ) → text_tokens w ≡ Ok (token start kind (length w) ∷ []) → (piece true w ≡ lexeme kind (length w)) × (0 < length w)
unfolding cut tokens_of
part_piece kind [] e = absurd cc
part_piece kind (b ∷ bs) e = (by (piece true (b ∷ bs)).form (piece true (b ∷ bs)).length (tokens_of (cut ((piece true (b ∷ bs)).length - 1) (next (begun start (piece true (b ∷ bs)).form) b) bs)) refl refl refl e, omega arith)
  where
    n : ℕ
    n = length (b ∷ bs)

    by : (form : Form) (m : ℕ) (others : Result (List Token) LoadFault) → (piece true (b ∷ bs)).form ≡ form → (piece true (b ∷ bs)).length ≡ m → tokens_of (cut ((piece true (b ∷ bs)).length - 1) (next (begun start (piece true (b ∷ bs)).form) b) bs) ≡ others → joined start form m others ≡ Ok (token start kind n ∷ []) → piece true (b ∷ bs) ≡ lexeme kind n
    by Gap m others is long o e =
        let gone : (piece true (b ∷ bs)).form ≡ Gap = is in
        let h = first_at ((piece true (b ∷ bs)).length - 1) (next (begun start (piece true (b ∷ bs)).form) b) bs (token start kind n) [] (o ∙ e) in
        let at : (next (begun start (piece true (b ∷ bs)).form) b).at ≡ 1 = ap (λ f. (next (begun start f) b).at) is ∙ next_at start b in
        absurd (omega (arith, h, at))
    by (Bad fault) m others is long o e = absurd cc
    by (Lexeme k) m (Err f) is long o e = absurd cc
    by (Lexeme k) m (Ok ts) is long o e =
        let same : token start k m ≡ token start kind n = cc in
        let kinds_same : k ≡ kind = ap (λ u. u.kind) same in
        let lengths : 0 + m ≡ 0 + n = ap (λ u. u.to) same in
        let size : (piece true (b ∷ bs)).length ≡ n = long ∙ omega (arith, lengths) in
        let form : (piece true (b ∷ bs)).form ≡ Lexeme kind = is ∙ ap (λ k. Lexeme k) kinds_same in
        rw (form, size) refl

longer : (w ys : List ℕ) → 0 < length (w ++ 32 ∷ ys)
longer [] ys = omega arith
longer (b ∷ w) ys = omega arith

-- a part and its blank are read
part_read : (p : Place) (x : Part) (ys : List ℕ) (ts : List Token) → piece p.opens_line (x.bytes ++ 32 ∷ ys) ≡ lexeme x.kind (length x.bytes) → 0 < length x.bytes → tokens_of (cut 0 (behind p x) ys) ≡ Ok ts → tokens_of (cut 0 p (x.bytes ++ 32 ∷ ys)) ≡ Ok (token p x.kind (length x.bytes) ∷ ts)
part_read p x ys ts e long rest =
    let w = x.bytes in
    let q = over (begun p (Lexeme x.kind)) w in
    let all = w ++ 32 ∷ ys in
    let some : 0 < length all = longer w ys in
    let deep : 0 < (piece p.opens_line all).length = subst (λ y. 0 < y.length) (sym e) long in
    let blank : tokens_of (cut 0 q (32 ∷ ys)) ≡ Ok ts = step q (32 ∷ ys) (omega arith) (subst (λ y. 0 < y.length) (sym (blank_piece q.opens_line ys)) (omega arith)) ∙ (ap (read_on q (32 ∷ ys)) (blank_piece q.opens_line ys) ∙ rest) in
    let first : tokens_of (cut 0 p all) ≡ read_on p all (lexeme x.kind (length w)) = step p all some deep ∙ ap (read_on p all) e in
    let cuts = take_all w (32 ∷ ys) in
    first ∙ (rw (cuts.0, cuts.1, blank) refl)

pub parts_from : (p : Place) (xs : List Part) → AreParts xs → tokens_of (cut 0 p (spread xs)) ≡ Ok (laid p xs)
unfolding cut tokens_of
parts_from p [] h = refl
parts_from p (x ∷ xs) h =
    let one = part_piece x.kind x.bytes h.0.one in
    part_read p x (spread xs) (laid (behind p x) xs) (piece_same x.kind p.opens_line x.bytes (spread xs) h.0.no_title one.0) one.1 (parts_from (behind p x) xs h.1)

pub parts_read : PartsAreTokens
parts_read xs h = parts_from start xs h
