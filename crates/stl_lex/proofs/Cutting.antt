-- Cutting a text piece by piece.
use Rattle.std.proofs.Common.{◌≡◌, ◌<◌, ℕ, zero, suc, List, [], ◌∷◌, ◌++◌, ◌-◌, take, drop, refl, ap, subst, arith, length, append_assoc, append-nil, ◌==◌, true, ◌∙◌, sym}
use Rattle.std.proofs.lemmas.Bool.{eqb-true}
use Rattle.std.specs.Prelude.{Result, Ok, Err}
use Rattle.stl_lex.specs.Place.{next, over}
use Rattle.stl_lex.specs.Pieces.{cut, piece, begun}
use Rattle.stl_lex.specs.Tokens.{tokens_of, joined, with_token, token, Adds, IsFaulty, Keeps, Gives}
use Rattle.stl_lex.specs.declared.lexer.LexError.{LexError}
use Rattle.stl_lex.specs.declared.lexer.LexError.TheVariants as errors
use Rattle.stl_lex.specs.declared.place.Place.{Place}
use Rattle.stl_lex.specs.declared.fault.LoadFault.{LoadFault}
use Rattle.stl_lex.specs.declared.piece.Form.{Form}
use Rattle.stl_lex.specs.declared.piece.Piece.{Piece}
use Rattle.stl_lex.specs.declared.piece.Form.TheVariants.{Gap, Lexeme, Bad}
use Rattle.stl_lex.specs.declared.token.Token.{Token}

-- the tokens so far, before what is still to come
abbrev pub with_front : List Token → Result (List Token) LoadFault → Result (List Token) LoadFault
with_front ts (Ok us) = Ok (ts ++ us)
with_front ts (Err f) = Err f

over_piece : (n : ℕ) (p : Place) (bytes : List ℕ) → cut n p bytes ≡ cut 0 (over p (take n bytes)) (drop n bytes)
unfolding cut
over_piece zero p bytes = refl
over_piece (suc n) p [] = refl
over_piece (suc n) p (b ∷ bs) = over_piece n (next p b) bs

behind : (n : ℕ) (p : Place) (b : ℕ) (bs : List ℕ) → 0 < n → cut (n - 1) (next p b) bs ≡ cut 0 (over p (take n (b ∷ bs))) (drop n (b ∷ bs))
behind zero p b bs h = absurd (omega arith)
behind (suc n) p b bs h =
    let e : suc n - 1 ≡ n = omega arith in
    rw e (over_piece n (next p b) bs)

-- the tokens of a piece and of what stands behind it
abbrev pub read_on : Place → List ℕ → Piece → Result (List Token) LoadFault
read_on p bytes x = joined p x.form x.length (tokens_of (cut 0 (over (begun p x.form) (take x.length bytes)) (drop x.length bytes)))

-- the first piece, and the tokens behind it
pub step : (p : Place) (bytes : List ℕ) → 0 < length bytes → 0 < (piece p.opens_line bytes).length → tokens_of (cut 0 p bytes) ≡ read_on p bytes (piece p.opens_line bytes)
unfolding cut tokens_of
step p [] some long = absurd (omega arith)
step p (b ∷ bs) some long =
    let x = piece p.opens_line (b ∷ bs) in
    ap (λ xs. joined p x.form x.length (tokens_of xs)) (behind x.length (begun p x.form) b bs long)

pub at_end : (ts : List Token) (p : Place) (bytes : List ℕ) (all : Result (List Token) LoadFault) → (length bytes == 0) ≡ true → with_front ts (tokens_of (cut 0 p bytes)) ≡ all → all ≡ Ok ts
unfolding cut tokens_of
at_end ts p [] all none h = rw (← h, append-nil) refl
at_end ts p (b ∷ bs) all none h = absurd (let e = eqb-true (length (b ∷ bs)) 0 none in omega arith)

one_more : (ts : List Token) (t : Token) (r : Result (List Token) LoadFault) → with_front ts (with_token t r) ≡ with_front (ts ++ t ∷ []) r
one_more ts t (Ok us) = let e : ts ++ (t ∷ us) ≡ (ts ++ t ∷ []) ++ us = simp append_assoc in rw e refl
one_more ts t (Err f) = refl

takes : (f : Form) (n : ℕ) (ts us : List Token) (p : Place) (r : Result (List Token) LoadFault) → Adds ts p f n us → with_front us r ≡ with_front ts (joined p f n r)
takes Gap n ts us p r e = rw e refl
takes (Lexeme kind) n ts us p r e = rw e (sym (one_more ts (token p kind n) r))
takes (Bad fault) n ts us p r e = absurd e

is_fault : (ts : List Token) (p : Place) (form : Form) (n : ℕ) (f : LoadFault) (r : Result (List Token) LoadFault) → IsFaulty p form f → with_front ts (joined p form n r) ≡ Err f
is_fault ts p Gap n f r e = absurd e
is_fault ts p (Lexeme kind) n f r e = absurd e
is_fault ts p (Bad fault) n f r e = rw e refl

-- one more piece is read
module _ (ts : List Token) (p : Place) (bytes : List ℕ) (all : Result (List Token) LoadFault) (x : Piece) (is : x ≡ piece p.opens_line bytes) (some : 0 < length bytes) (long : 0 < x.length) (here : with_front ts (tokens_of (cut 0 p bytes)) ≡ all) where
  now_step : with_front ts (read_on p bytes x) ≡ all
  now_step =
      let P : Piece → Type 0 = λ y. 0 < y.length → with_front ts (read_on p bytes y) ≡ all in
      subst P (sym is) (λ h. rw (← step p bytes some h) here) long

  pub goes_on : (us : List Token) (q : Place) (front after : List ℕ) → front ≡ take x.length bytes → after ≡ drop x.length bytes → q ≡ over (begun p x.form) front → Adds ts p x.form x.length us → with_front us (tokens_of (cut 0 q after)) ≡ all
  goes_on us q front after e1 e2 e3 took =
      rw (e3, e1, e2) (takes x.form x.length ts us p _ took ∙ now_step)

  bad : (f : LoadFault) → IsFaulty p x.form f → all ≡ Err f
  bad f e = sym now_step ∙ is_fault ts p x.form x.length f (tokens_of (cut 0 (over (begun p x.form) (take x.length bytes)) (drop x.length bytes))) e

  pub fails : (e : LexError) (us : List Token) → Keeps {A = Unit {0}} (Err e) ts p x us → Gives (Err e) all
  fails (errors.Fault f) us e = bad f e
  fails errors.NoMemory us e = tt
