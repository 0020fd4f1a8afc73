-- Values of declared names: what is read is spelled so, and what is spelled so is read.
use Rattle.std.proofs.Common.{◌≡◌, ℕ, List, [], ◌∷◌, ◌++◌, refl, subst, ap, Bool, true, false, cond, ◌||◌, ◌&&◌}
use Rattle.std.specs.Prelude.{Ok, Option, Some, None, codes}
use Rattle.std.specs.Str.{bytes_eq}
use Rattle.stl_lex.specs.declared.piece.TokenKind.{TokenKind}
use Rattle.stl_lex.specs.declared.piece.TokenKind.TheVariants as kinds
use Rattle.stl_lex.specs.declared.token.Token.{Token}
use Rattle.stl_decl.specs.declared.fault.FaultKind.TheVariants.{BadOperand}
use Rattle.stl_decl.specs.declared.constants.Constant.{Constant}
use Rattle.stl_decl.specs.declared.constants.Value.{Value}
use Rattle.stl_decl.specs.Steps.{spelling, fault_at, is_number_kind, is_sign_kind, is_sign, integer_at}
use Rattle.stl_decl.specs.Types.{is_int}
use Rattle.stl_decl.specs.Constants.{suits, constant_by, constant_of, begins_integer, integer_constant, integer_value, integer_value_at, single_value, value_at}
use Rattle.stl_decl.specs.Initials.{suited, value_of_type_at}
use Rattle.stl_reader.proofs.Language.{bind_ok}
use Rattle.reader_laws.specs.Operands.{IsInteger, unsigned, positive, negative, is_in_range, last_of}
use Rattle.reader_laws.specs.Values.{IsConstant, of_number, of_token, first_in, IsValueRead, ValuesReadAreSpelled, ValuesSpelledAreRead}
use Rattle.reader_laws.proofs.Steps.{if_ok, same_ok, integer_takes}
use Rattle.reader_laws.proofs.Figures.{integer_from}

-- a token that is a constant begins no number
no_number : (text : List ℕ) (kind : TokenKind) (t : Token) (c : Constant) → constant_by kind (spelling text t) ≡ Some c → (is_number_kind kind || is_sign_kind kind && bytes_eq (spelling text t) (codes "-") || is_sign_kind kind && bytes_eq (spelling text t) (codes "+")) ≡ false
no_number text kinds.Literal t c e = refl
no_number text kinds.Characters t c e = refl
no_number text kinds.Word t c e = refl
no_number text _ t c e = absurd cc

module _ (text : List ℕ) where
  pub token_begins : (t : Token) (c : Constant) → constant_of text t ≡ Some c → begins_integer text t ≡ false
  unfolding constant_of
  token_begins t c e = no_number text t.kind t c e

  number_again : (minus : Bool) (n : ℕ) (t : Token) (ts rest : List Token) (first : Token) → (integer_at text (t ∷ (ts ++ rest)) ≡ Ok (record { negative = minus; magnitude = n; first = first; last = last_of t ts }, rest)) → begins_integer text t ≡ true → is_in_range minus n ≡ true → value_at text (t ∷ (ts ++ rest)) ≡ Ok (record { constant = integer_constant (record { negative = minus; magnitude = n; first = first; last = last_of t ts }); first = first; last = last_of t ts }, rest)
  unfolding integer_value_at
  number_again minus n t ts rest first read begins range = rw (begins, read, range) refl

  minus_begins : (a b c : Bool) → b ≡ true → (a || b || c) ≡ true
  minus_begins true b c e = refl
  minus_begins false true c e = refl
  minus_begins false false c e = absurd cc

  plus_begins : (a b c : Bool) → c ≡ true → (a || b || c) ≡ true
  plus_begins true b c e = refl
  plus_begins false true c e = refl
  plus_begins false false true e = refl
  plus_begins false false false e = absurd cc

  integer_read : (minus : Bool) (n : ℕ) (front rest : List Token) (l : Token) → IsInteger text minus n front → is_in_range minus n ≡ true → value_at text (front ++ rest) ≡ Ok (record { constant = integer_constant (record { negative = minus; magnitude = n; first = first_in l front; last = last_of l front }); first = first_in l front; last = last_of l front }, rest)
  integer_read minus n front rest l (unsigned t h) range =
      number_again false n t [] rest t (integer_from text false n (t ∷ []) rest l (unsigned t h)) (ap (λ b. b || is_sign text t (codes "-") || is_sign text t (codes "+")) h) range
  integer_read minus n front rest l (positive s t sign h) range =
      number_again false n s (t ∷ []) rest s (integer_from text false n (s ∷ t ∷ []) rest l (positive s t sign h)) (plus_begins (is_number_kind s.kind) (is_sign text s (codes "-")) (is_sign text s (codes "+")) sign) range
  integer_read minus n front rest l (negative s t sign h) range =
      number_again true n s (t ∷ []) rest s (integer_from text true n (s ∷ t ∷ []) rest l (negative s t sign h)) (minus_begins (is_number_kind s.kind) (is_sign text s (codes "-")) (is_sign text s (codes "+")) sign) range

  token_read : (c : Constant) (t : Token) (rest : List Token) → constant_of text t ≡ Some c → value_at text (t ∷ rest) ≡ Ok (record { constant = c; first = t; last = t }, rest)
  token_read c t rest e = rw (token_begins t c e, e) refl

pub value_read : ValuesSpelledAreRead
unfolding value_of_type_at
value_read text simple c front rest l (of_number minus n ts h range) fits = rw (integer_read text minus n ts rest l h range, fits) refl
value_read text simple c front rest l (of_token d t is) fits = rw (token_read text d t rest is, fits) refl

-- a constant was taken
record TakesValue (text : List ℕ) (tokens : List Token) (x : Value × List Token) : Type 0 where
  front : List Token
  cut : tokens ≡ front ++ x.1
  last : last_of x.0.last front ≡ x.0.last
  spelled : IsConstant text x.0.constant front

module _ (text : List ℕ) where
  integer_taken : (tokens : List Token) (x : Value × List Token) → integer_value_at text tokens ≡ Ok x → TakesValue text tokens x
  unfolding integer_value_at
  integer_taken tokens x e =
      let n = bind_ok (integer_at text tokens) (λ number. integer_value number.0 number.1) x e in
      let p = if_ok (is_int n.0.0) (Ok (record { constant = integer_constant n.0.0; first = n.0.0.first; last = n.0.0.last }, n.0.1)) (fault_at BadOperand n.0.0.first) x n.2 in
      let h = integer_takes text tokens n.0 n.1 in
      subst (TakesValue text tokens) (same_ok (record { constant = integer_constant n.0.0; first = n.0.0.first; last = n.0.0.last }, n.0.1) x p.1) (record {
        front = h.front;
        cut = h.cut;
        last = h.last n.0.0.last;
        spelled = of_number n.0.0.negative n.0.0.magnitude h.front h.integer p.0;
      })

  token_taken : (o : Option Constant) (t : Token) (ts : List Token) (x : Value × List Token) → constant_of text t ≡ o → single_value o text t ts ≡ Ok x → TakesValue text (t ∷ ts) x
  token_taken None t ts x is e = absurd cc
  token_taken (Some c) t ts x is e =
      subst (TakesValue text (t ∷ ts)) (same_ok (record { constant = c; first = t; last = t }, ts) x e) (record { front = t ∷ []; cut = refl; last = refl; spelled = of_token c t is })

  value_takes : (tokens : List Token) (x : Value × List Token) → value_at text tokens ≡ Ok x → TakesValue text tokens x
  value_takes [] x e = absurd cc
  value_takes (t ∷ ts) x e = by (begins_integer text t) e
    where
      by : (b : Bool) → cond b (integer_value_at text (t ∷ ts)) (single_value (constant_of text t) text t ts) ≡ Ok x → TakesValue text (t ∷ ts) x
      by true e = integer_taken (t ∷ ts) x e
      by false e = token_taken (constant_of text t) t ts x refl e

pub value_spelled : ValuesReadAreSpelled
unfolding value_of_type_at
value_spelled text simple tokens x e =
    let v = bind_ok (value_at text tokens) _ x e in
    let f = bind_ok (suited simple v.0.0) _ x v.2 in
    let p = if_ok (suits simple v.0.0.constant.form) (Ok tt) (fault_at BadOperand v.0.0.first) f.0 f.1 in
    let h = value_takes text tokens v.0 v.1 in
    subst (IsValueRead text simple tokens) (same_ok v.0 x f.2) (record { front = h.front; cut = h.cut; last = h.last; spelled = h.spelled; suits = p.0 })
