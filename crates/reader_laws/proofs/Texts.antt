-- The literals among the tokens of a text are literals by their bytes.
use Rattle.std.proofs.Common.{◌≡◌, ◌+◌, ◌-◌, ℕ, zero, suc, List, [], ◌∷◌, take, drop, refl, subst, ap, sym, ◌∙◌, Bool, true, false, cond, ◌==◌, ◌&&◌, ◌||◌, arith, inl, inr}
use Rattle.std.specs.Prelude.{Option, Some, None, Result, Ok, Err, slice_index, nat_le, nat_lt}
use Rattle.std.specs.List.{list_any}
use Rattle.std.specs.Char.{is_ascii_digit}
use Rattle.stl_lex.specs.declared.fault.LoadFault.{LoadFault}
use Rattle.stl_lex.specs.declared.fault.TokenFault.{TokenFault}
use Rattle.stl_lex.specs.declared.fault.TokenFault.TheVariants.{BadByte, BadNumber, OutOfRange, UnclosedComment}
use Rattle.stl_lex.specs.declared.place.Place.{Place}
use Rattle.stl_lex.specs.declared.piece.TokenKind.{TokenKind}
use Rattle.stl_lex.specs.declared.piece.TokenKind.TheVariants as kinds
use Rattle.stl_lex.specs.declared.piece.Form.{Form}
use Rattle.stl_lex.specs.declared.piece.Form.TheVariants.{Gap, Lexeme, Bad}
use Rattle.stl_lex.specs.declared.piece.Piece.{Piece}
use Rattle.stl_lex.specs.declared.token.Token.{Token}
use Rattle.stl_lex.specs.Place.{start, next}
use Rattle.stl_lex.specs.Numerals.{is_numeral, value_of}
use Rattle.stl_lex.specs.Literals.{literal_form}
use Rattle.stl_lex.specs.Runs.{run_length, is_real_part, digits_form, run_form}
use Rattle.stl_lex.specs.Bytes.{is_blank, is_run_byte, is_double_sign, is_sign, front_length}
use Rattle.stl_lex.specs.declared.bytes.ByteClass.TheVariants as classes
use Rattle.stl_lex.specs.Pieces.{gap, lexeme, bad, closes_at, comment_by, comment, is_title, line_length, attribute, characters, run, piece, begun, cut}
use Rattle.stl_lex.specs.Tokens.{token, joined, tokens_of}
use Rattle.stl_decl.specs.Steps.{spelling}
use Rattle.stl_decl.specs.Constants.{constant_by, constant_of}
use Rattle.reader_laws.specs.Tokens.{IsOneOf}
use Rattle.reader_laws.specs.Literals.{LiteralsOfTextsAreSpelled}
use Rattle.reader_laws.proofs.Literals.{literal_spelled}

-- digits are no literal
digits_no : (run : List ℕ) → digits_form run ≡ Lexeme kinds.Literal → ⊥
digits_no run e = by (is_real_part run) (is_numeral 10 run) (nat_le (value_of 10 run) 4294967295) e
  where
    by : (a b c : Bool) → cond a (Lexeme kinds.RealPart) (cond b (cond c (Lexeme kinds.Number) (Bad OutOfRange)) (Bad BadNumber)) ≡ Lexeme kinds.Literal → ⊥
    by true b c e = absurd cc
    by false true true e = absurd cc
    by false true false e = absurd cc
    by false false c e = absurd cc

run_literal : (run : List ℕ) → run_form run ≡ Lexeme kinds.Literal → literal_form run ≡ Lexeme kinds.Literal
unfolding run_form
run_literal run e = by (slice_index run 0 == 35) (list_any (λ b. b == 35) run) (is_ascii_digit (slice_index run 0)) e
  where
    by : (a b c : Bool) → cond a (Lexeme kinds.Local) (cond b (literal_form run) (cond c (digits_form run) (Lexeme kinds.Word))) ≡ Lexeme kinds.Literal → literal_form run ≡ Lexeme kinds.Literal
    by true b c e = absurd cc
    by false true c e = e
    by false false true e = absurd (digits_no run e)
    by false false false e = absurd cc

-- a piece that is a literal is a run from the front
record IsRun (bytes : List ℕ) (x : Piece) : Type 0 where
  literal : x.form ≡ Lexeme kinds.Literal → (x.length ≡ run_length bytes) × (run_form (take (run_length bytes) bytes) ≡ Lexeme kinds.Literal)

choose : (bytes : List ℕ) (t : Bool) (x y : Piece) → IsRun bytes x → IsRun bytes y → IsRun bytes (cond t x y)
choose bytes true x y h k = h
choose bytes false x y h k = k

no_literal : (bytes : List ℕ) (form : Form) (n : ℕ) → (form ≡ Lexeme kinds.Literal → ⊥) → IsRun bytes (record { form = form; length = n })
no_literal bytes form n h = record { literal = λ e. absurd (h e) }

gap_no : Gap ≡ Lexeme kinds.Literal → ⊥
gap_no e = absurd cc

bad_no : (fault : TokenFault) → Bad fault ≡ Lexeme kinds.Literal → ⊥
bad_no fault e = absurd cc

title_no : Lexeme kinds.Title ≡ Lexeme kinds.Literal → ⊥
title_no e = absurd cc

attribute_no : Lexeme kinds.Attribute ≡ Lexeme kinds.Literal → ⊥
attribute_no e = absurd cc

characters_no : Lexeme kinds.Characters ≡ Lexeme kinds.Literal → ⊥
characters_no e = absurd cc

sign_no : Lexeme kinds.Sign ≡ Lexeme kinds.Literal → ⊥
sign_no e = absurd cc

comment_no : (bytes : List ℕ) (o : Option ℕ) → IsRun bytes (comment_by o bytes)
comment_no bytes (Some n) = no_literal bytes _ _ gap_no
comment_no bytes None = no_literal bytes _ _ (bad_no UnclosedComment)

attribute_run : (bytes : List ℕ) → IsRun bytes (attribute bytes)
attribute_run bytes =
    let n = front_length classes.Inside bytes in
    choose bytes (slice_index bytes n == 125) (lexeme kinds.Attribute (n + 1)) (bad BadByte 1) (no_literal bytes (Lexeme kinds.Attribute) (n + 1) attribute_no) (no_literal bytes (Bad BadByte) 1 (bad_no BadByte))

characters_run : (bytes : List ℕ) → IsRun bytes (characters bytes)
characters_run bytes =
    let n = front_length classes.Character (drop 1 bytes) in
    choose bytes (nat_lt 0 n && nat_le n 4 && slice_index (drop 1 bytes) n == 39) (lexeme kinds.Characters (n + 2)) (bad BadByte 1) (no_literal bytes (Lexeme kinds.Characters) (n + 2) characters_no) (no_literal bytes (Bad BadByte) 1 (bad_no BadByte))

piece_run : (opens : Bool) (bytes : List ℕ) → IsRun bytes (piece opens bytes)
unfolding piece
piece_run opens bytes =
    let a = slice_index bytes 0 in
    let b = slice_index bytes 1 in
    choose bytes (is_blank a || a == 10 || (a == 13 && b == 10)) (gap 1) _ (no_literal bytes Gap 1 gap_no)
    (choose bytes (a == 47 && b == 47) (gap (line_length 2 bytes)) _ (no_literal bytes Gap (line_length 2 bytes) gap_no)
    (choose bytes (a == 40 && b == 42) (comment bytes) _ (comment_no bytes (closes_at 0 false (drop 2 bytes)))
    (choose bytes (opens && is_title bytes) (lexeme kinds.Title (line_length 5 bytes)) _ (no_literal bytes (Lexeme kinds.Title) (line_length 5 bytes) title_no)
    (choose bytes (a == 123) (attribute bytes) _ (attribute_run bytes)
    (choose bytes (a == 39) (characters bytes) _ (characters_run bytes)
    (choose bytes (is_run_byte a) (run bytes) _ (record { literal = λ e. (refl, e) })
    (choose bytes (is_double_sign a b) (lexeme kinds.Sign 2) _ (no_literal bytes (Lexeme kinds.Sign) 2 sign_no)
    (choose bytes (is_sign a) (lexeme kinds.Sign 1) (bad BadByte 1) (no_literal bytes (Lexeme kinds.Sign) 1 sign_no) (no_literal bytes (Bad BadByte) 1 (bad_no BadByte))))))))))

drop_one : (n b : ℕ) (text bs : List ℕ) → drop n text ≡ b ∷ bs → drop (suc n) text ≡ bs
drop_one zero b [] bs e = absurd cc
drop_one zero b (x ∷ xs) bs e = cc
drop_one (suc n) b [] bs e = absurd cc
drop_one (suc n) b (x ∷ xs) bs e = drop_one n b xs bs e

next_at : (p : Place) (b : ℕ) → (next p b).at ≡ p.at + 1
next_at p b = by (b == 10)
  where
    by : (t : Bool) → (cond {A = Place} t (record { at = p.at + 1; line = p.line + 1; column = 1; opens_line = true }) (record { at = p.at + 1; line = p.line; column = p.column + 1; opens_line = p.opens_line })).at ≡ p.at + 1
    by true = refl
    by false = refl

begun_at : (p : Place) (form : Form) → (begun p form).at ≡ p.at
begun_at p Gap = refl
begun_at p (Lexeme kind) = refl
begun_at p (Bad fault) = refl

module _ (text : List ℕ) where
  further : (p q : Place) (b : ℕ) (bs : List ℕ) → q.at ≡ p.at → drop p.at text ≡ b ∷ bs → drop (next q b).at text ≡ bs
  further p q b bs same here =
      let place : (next q b).at ≡ suc p.at = next_at q b ∙ (ap (λ n. n + 1) same ∙ one_more p.at) in
      ap (λ n. drop n text) place ∙ drop_one p.at b text bs here
    where
      one_more : (n : ℕ) → n + 1 ≡ suc n
      one_more n = omega arith

  abbrev IsTold : Token → Type 0
  IsTold t = t.kind ≡ kinds.Literal → literal_form (spelling text t) ≡ Lexeme kinds.Literal

  -- the token of a piece
  piece_told : (p : Place) (kind : TokenKind) (bytes : List ℕ) (x : Piece) → drop p.at text ≡ bytes → IsRun bytes x → x.form ≡ Lexeme kind → IsTold (token p kind x.length)
  piece_told p kind bytes x here run is k =
      let form : x.form ≡ Lexeme kinds.Literal = is ∙ ap (λ q. let f : Form = Lexeme q in f) k in
      let h = run.literal form in
      let size : p.at + x.length - p.at ≡ x.length = omega arith in
      let bytes_are : spelling text (token p kind x.length) ≡ take (run_length bytes) bytes = ap (λ n. take n (drop p.at text)) (size ∙ h.0) ∙ ap (λ q. take (run_length bytes) q) here in
      ap literal_form bytes_are ∙ run_literal (take (run_length bytes) bytes) h.1

  joined_told : (p : Place) (bytes : List ℕ) (x : Piece) (form : Form) (others : Result (List Token) LoadFault) (ts : List Token) → drop p.at text ≡ bytes → IsRun bytes x → x.form ≡ form → ((us : List Token) → others ≡ Ok us → (t : Token) → IsOneOf t us → IsTold t) → joined p form x.length others ≡ Ok ts → (t : Token) → IsOneOf t ts → IsTold t
  joined_told p bytes x Gap others ts here run is again e t h = again ts e t h
  joined_told p bytes x (Bad fault) others ts here run is again e t h = absurd cc
  joined_told p bytes x (Lexeme kind) (Err f) ts here run is again e t h = absurd cc
  joined_told p bytes x (Lexeme kind) (Ok us) ts here run is again e t h =
      let all : token p kind x.length ∷ us ≡ ts = cc in
      by (subst (IsOneOf t) (sym all) h)
    where
      by : IsOneOf t (token p kind x.length ∷ us) → IsTold t
      by (inl same) = subst IsTold same (piece_told p kind bytes x here run is)
      by (inr later) = again us refl t later

  cut_told : (n : ℕ) (p : Place) (bytes : List ℕ) (ts : List Token) → drop p.at text ≡ bytes → tokens_of (cut n p bytes) ≡ Ok ts → (t : Token) → IsOneOf t ts → IsTold t
  unfolding cut tokens_of
  cut_told n p [] ts here e t h = let none : [] ≡ ts = cc in absurd (subst (IsOneOf t) (sym none) h)
  cut_told zero p (b ∷ bs) ts here e t h =
      let x = piece p.opens_line (b ∷ bs) in
      joined_told p (b ∷ bs) x x.form (tokens_of (cut (x.length - 1) (next (begun p x.form) b) bs)) ts here (piece_run p.opens_line (b ∷ bs)) refl
      (λ us f u k. cut_told (x.length - 1) (next (begun p x.form) b) bs us (further p (begun p x.form) b bs (begun_at p x.form) here) f u k) e t h
  cut_told (suc n) p (b ∷ bs) ts here e t h = cut_told n (next p b) bs ts (further p p b bs refl here) e t h

constant_behind : (text : List ℕ) (t : Token) → t.kind ≡ kinds.Literal → constant_of text t ≡ constant_by kinds.Literal (spelling text t)
unfolding constant_of
constant_behind text t k = ap (λ q. constant_by q (spelling text t)) k

pub text_literals : LiteralsOfTextsAreSpelled
text_literals text tokens t c e h k is =
    let told = cut_told text 0 start text tokens refl e t h k in
    literal_spelled (spelling text t) c told (sym (constant_behind text t k) ∙ is)
