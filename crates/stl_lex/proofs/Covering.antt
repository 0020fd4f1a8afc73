-- Tokens stand one behind the other, and around them only blanks, line ends and comments.
use Rattle.std.proofs.Common.{◌≡◌, ◌≤◌, ◌<◌, ◌+◌, ◌-◌, ◌==◌, ℕ, zero, suc, List, [], ◌∷◌, ◌++◌, Bool, true, false, cond, length, take, drop, refl, ap, subst, arith, ◌∙◌}
use Rattle.std.specs.Prelude.{Result, Ok, Err, IfOk}
use Rattle.std.proofs.Math.Seq.{take-add}
use Rattle.std.proofs.lemmas.List.{length-drop, drop-drop, take-append-drop}
use Rattle.stl_lex.specs.declared.fault.LoadFault.{LoadFault}
use Rattle.stl_lex.specs.declared.lexer.LexError.{LexError}
use Rattle.stl_lex.specs.declared.place.Place.{Place}
use Rattle.stl_lex.specs.declared.piece.Form.{Form}
use Rattle.stl_lex.specs.declared.piece.Form.TheVariants.{Gap, Lexeme, Bad}
use Rattle.stl_lex.specs.declared.token.Token.{Token}
use Rattle.stl_lex.specs.Place.{start, next}
use Rattle.stl_lex.specs.Pieces.{piece, begun, cut}
use Rattle.stl_lex.specs.Tokens.{tokens_of, joined, token, text_tokens, Gives}
use Rattle.stl_lex.specs.Spans.{IsGap, IsFiller, AreSpans}
use Rattle.stl_lex.specs.Spans.IsFiller.{nothing, more}
use Rattle.stl_lex.proofs.Shapes.{OfGap, shape}

-- a gap before the first token
behind_gap : (at n : ℕ) (bytes : List ℕ) (ts : List Token) → n ≤ length bytes → IsGap (take n bytes) → AreSpans (at + n) (drop n bytes) ts → AreSpans at bytes ts
behind_gap at n bytes [] fits gap spans = subst IsFiller (take-append-drop n bytes) (more (take n bytes) (drop n bytes) gap spans)
behind_gap at n bytes (t ∷ ts) fits gap spans =
    let h = spans.0 in
    let later = h.behind in
    let within = h.within in
    let l = length-drop n bytes in
    let m : t.from - at ≡ n + (t.from - (at + n)) = omega arith in
    let e : take (t.from - at) bytes ≡ take n bytes ++ take (t.from - (at + n)) (drop n bytes) = rw m (take-add n (t.from - (at + n)) bytes) in
    let some = h.some in
    let d : n + (t.to - (at + n)) ≡ t.to - at = omega arith in
    let rest : drop (t.to - (at + n)) (drop n bytes) ≡ drop (t.to - at) bytes = drop-drop (t.to - (at + n)) n bytes ∙ ap (λ k. drop k bytes) d in (
      record {
        behind = omega arith;
        filler = rw e (more (take n bytes) (take (t.from - (at + n)) (drop n bytes)) gap h.filler);
        some = h.some;
        within = omega arith;
      },
      subst (λ bs. AreSpans t.to bs ts) rest spans.1,
    )

-- a token before the others
before_others : (p : Place) (bytes : List ℕ) (t : Token) (ts : List Token) (n : ℕ) → t.from ≡ p.at → t.to ≡ p.at + n → 0 < n → n ≤ length bytes → AreSpans (p.at + n) (drop n bytes) ts → AreSpans p.at bytes (t ∷ ts)
before_others p bytes t ts n from to some fits spans =
    let none : t.from - p.at ≡ 0 = omega arith in
    let all : t.to - p.at ≡ n = omega arith in (
      record {
        behind = omega arith;
        filler = rw none nothing;
        some = omega arith;
        within = omega arith;
      },
      rw (all, to) spans,
    )

one_piece : (p : Place) (bytes : List ℕ) (form : Form) (n : ℕ) (r : Result (List Token) LoadFault) (ts : List Token) → 0 < n → n ≤ length bytes → OfGap form (IsGap (take n bytes)) → ((us : List Token) → r ≡ Ok us → AreSpans (p.at + n) (drop n bytes) us) → joined p form n r ≡ Ok ts → AreSpans p.at bytes ts
one_piece p bytes Gap n r ts some fits gap spans e = behind_gap p.at n bytes ts fits gap (spans ts e)
one_piece p bytes (Lexeme kind) n (Ok us) ts some fits gap spans e =
    let same : token p kind n ∷ us ≡ ts = cc in
    subst (AreSpans p.at bytes) same (before_others p bytes (token p kind n) us n refl refl some fits (spans us refl))
one_piece p bytes (Lexeme kind) n (Err f) ts some fits gap spans e = absurd cc
one_piece p bytes (Bad fault) n r ts some fits gap spans e = absurd cc

next_at : (p : Place) (b : ℕ) → (next p b).at ≡ p.at + 1
next_at p b = by (b == 10)
  where
    by : (t : Bool) → (cond {A = Place} t (record { at = p.at + 1; line = p.line + 1; column = 1; opens_line = true }) (record { at = p.at + 1; line = p.line; column = p.column + 1; opens_line = p.opens_line })).at ≡ p.at + 1
    by true = refl
    by false = refl

begun_at : (p : Place) (f : Form) → (begun p f).at ≡ p.at
begun_at p Gap = refl
begun_at p (Lexeme kind) = refl
begun_at p (Bad fault) = refl

moved : (p q : Place) (b n : ℕ) (bs : List ℕ) (us : List Token) → q.at ≡ p.at + 1 → 0 < n → AreSpans (q.at + (n - 1)) (drop (n - 1) bs) us → AreSpans (p.at + n) (drop n (b ∷ bs)) us
moved p q b zero bs us e some spans = absurd (omega arith)
moved p q b (suc n) bs us e some spans =
    let less : suc n - 1 ≡ n = omega arith in
    let here : q.at + n ≡ p.at + suc n = omega arith in
    subst (λ k. AreSpans k (drop n bs) us) here (rw less at spans)

covers : (n : ℕ) (p : Place) (bytes : List ℕ) (ts : List Token) → n ≤ length bytes → tokens_of (cut n p bytes) ≡ Ok ts → AreSpans (p.at + n) (drop n bytes) ts
unfolding cut tokens_of
covers zero p [] ts fits e =
    let none : [] ≡ ts = cc in
    subst (AreSpans (p.at + 0) []) none nothing
covers (suc n) p [] ts fits e = absurd (omega arith)
covers zero p (b ∷ bs) ts fits e =
    let x = piece p.opens_line (b ∷ bs) in
    let is = shape p.opens_line (b ∷ bs) (omega arith) in
    let q = next (begun p x.form) b in
    let at : q.at ≡ p.at + 1 = next_at (begun p x.form) b ∙ ap (λ k. k + 1) (begun_at p x.form) in
    let same : p.at + 0 ≡ p.at = omega arith in
    let some = is.some in
    let within = is.within in
    let room : x.length - 1 ≤ length bs = omega arith in
    rw same (one_piece p (b ∷ bs) x.form x.length (tokens_of (cut (x.length - 1) q bs)) ts is.some is.within is.gap (λ us h. moved p q b x.length bs us at is.some (covers (x.length - 1) q bs us room h)) e)
covers (suc n) p (b ∷ bs) ts fits e =
    let at = next_at p b in
    let here : (next p b).at + n ≡ p.at + suc n = omega arith in
    let room : n ≤ length bs = omega arith in
    subst (λ k. AreSpans k (drop n bs) ts) here (covers n (next p b) bs ts room e)

-- what reading gives are spans of the text
pub spans : (text : List ℕ) (r : Result (List Token) LexError) → Gives r (text_tokens text) → IfOk r (λ ts. AreSpans 0 text ts)
spans text (Ok ts) e = covers 0 start text ts (omega arith) e
spans text (Err error) e = tt
