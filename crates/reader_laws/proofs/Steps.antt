-- What the steps of reading took from the tokens.
use Rattle.std.proofs.Common.{◌≡◌, ℕ, List, [], ◌∷◌, ◌++◌, refl, subst, ap, ◌∙◌, Bool, true, false, cond}
use Rattle.std.specs.Prelude.{Result, Ok, Err, min, codes}
use Rattle.stl_lex.specs.declared.token.Token.{Token}
use Rattle.stl_decl.specs.declared.fault.Fault.{Fault}
use Rattle.stl_decl.specs.declared.steps.SignedNumber.{SignedNumber}
use Rattle.stl_decl.specs.Steps.{is_number_kind, is_word, is_sign, number_of, unfit, fault_at, sign_at, number_at, signed_at, integer_at}
use Rattle.stl_decl.specs.declared.fault.FaultKind.TheVariants.{OutOfScope}
use Rattle.stl_reader.specs.Addresses.{refused, part_number, part_sign, part_word, address}
use Rattle.stl_reader.proofs.Language.{bind_ok}
use Rattle.reader_laws.specs.Tokens.{IsNumber, IsSign}
use Rattle.reader_laws.specs.Operands.{IsInteger, unsigned, positive, negative, last_of}

pub if_ok : {A : Type 0} (b : Bool) (r : Result A Fault) (f : Fault) (x : A) → cond b r (Err f) ≡ Ok x → (b ≡ true) × (r ≡ Ok x)
if_ok true r f x e = (refl, e)
if_ok false r f x e = absurd cc

pub if_not : {A : Type 0} (b : Bool) (f : Fault) (r : Result A Fault) (x : A) → cond b (Err f) r ≡ Ok x → (b ≡ false) × (r ≡ Ok x)
if_not false f r x e = (refl, e)
if_not true f r x e = absurd cc

pub same_ok : {A : Type 0} (x y : A) → (let r : Result A Fault = Ok x in r ≡ Ok y) → x ≡ y
same_ok x y e = cc

-- a number was taken
pub record TakesNumber (text : List ℕ) (tokens : List Token) (x : ℕ × Token × List Token) : Type 0 where
  pub cut : tokens ≡ x.1 ∷ x.2
  pub number : IsNumber text x.0 x.1

-- a token was taken that is such a one
pub record TakesToken (P : Token → Type 0) (tokens : List Token) (x : Token × List Token) : Type 0 where
  pub cut : tokens ≡ x.0 ∷ x.1
  pub is : P x.0

module _ (text mnemonic : List ℕ) where
  pub number_takes : (tokens : List Token) (x : ℕ × Token × List Token) → part_number text mnemonic tokens ≡ Ok x → TakesNumber text tokens x
  number_takes [] x e = absurd cc
  number_takes (t ∷ ts) x e =
      let p = if_ok (is_number_kind t.kind) (Ok (min (number_of text t) 4294967295, t, ts)) (refused text mnemonic t) x e in
      subst (TakesNumber text (t ∷ ts)) (same_ok (min (number_of text t) 4294967295, t, ts) x p.1) (record { cut = refl; number = record { kind = p.0; value = refl } })

  pub address_takes : (tokens : List Token) (x : ℕ × Token × List Token) → address text mnemonic tokens ≡ Ok x → TakesNumber text tokens x
  address_takes [] x e = absurd cc
  address_takes (t ∷ ts) x e =
      let p = if_not (is_sign text t (codes "[")) (fault_at OutOfScope t) (part_number text mnemonic (t ∷ ts)) x e in
      number_takes (t ∷ ts) x p.1

  pub sign_takes : (sign : List ℕ) (tokens : List Token) (x : Token × List Token) → part_sign text mnemonic sign tokens ≡ Ok x → TakesToken (IsSign text sign) tokens x
  sign_takes sign [] x e = absurd cc
  sign_takes sign (t ∷ ts) x e =
      let p = if_ok (is_sign text t sign) (Ok (t, ts)) (refused text mnemonic t) x e in
      subst (TakesToken (IsSign text sign) (t ∷ ts)) (same_ok (t, ts) x p.1) (record { cut = refl; is = p.0 })

  pub word_takes : (word : List ℕ) (tokens : List Token) (x : Token × List Token) → part_word text mnemonic word tokens ≡ Ok x → TakesToken (λ t. is_word text t word ≡ true) tokens x
  word_takes word [] x e = absurd cc
  word_takes word (t ∷ ts) x e =
      let p = if_ok (is_word text t word) (Ok (t, ts)) (refused text mnemonic t) x e in
      subst (TakesToken (λ t. is_word text t word ≡ true) (t ∷ ts)) (same_ok (t, ts) x p.1) (record { cut = refl; is = p.0 })

-- a number with its sign was taken
pub record TakesInteger (text : List ℕ) (tokens : List Token) (x : SignedNumber × List Token) : Type 0 where
  pub front : List Token
  pub cut : tokens ≡ front ++ x.1
  pub last : (t : Token) → last_of t front ≡ x.0.last
  pub integer : IsInteger text x.0.negative x.0.magnitude front

-- a digit token was taken behind a sign
pub record TakesSigned (text : List ℕ) (minus : Bool) (first : Token) (tokens : List Token) (x : SignedNumber × List Token) : Type 0 where
  pub digits : Token
  pub cut : tokens ≡ digits ∷ x.1
  pub kind : is_number_kind digits.kind ≡ true
  pub same : record { negative = minus; magnitude = number_of text digits; first = first; last = digits } ≡ x.0

module _ (text : List ℕ) where
  pub closing_takes : (sign : List ℕ) (tokens : List Token) (x : Token × List Token) → sign_at text sign tokens ≡ Ok x → TakesToken (IsSign text sign) tokens x
  closing_takes sign [] x e = absurd cc
  closing_takes sign (t ∷ ts) x e =
      let p = if_ok (is_sign text t sign) (Ok (t, ts)) (unfit text t) x e in
      subst (TakesToken (IsSign text sign) (t ∷ ts)) (same_ok (t, ts) x p.1) (record { cut = refl; is = p.0 })

  signed_takes : (minus : Bool) (first : Token) (tokens : List Token) (x : SignedNumber × List Token) → signed_at text minus first tokens ≡ Ok x → TakesSigned text minus first tokens x
  unfolding signed_at
  signed_takes minus first [] x e = absurd cc
  signed_takes minus first (t ∷ ts) x e =
      let n = bind_ok (number_at text (t ∷ ts)) (λ number. Ok (record { negative = minus; magnitude = number.0; first = first; last = number.1 }, number.2)) x e in
      let p = if_ok (is_number_kind t.kind) (Ok (number_of text t, t, ts)) (unfit text t) n.0 n.1 in
      let number : (number_of text t, t, ts) ≡ n.0 = same_ok (number_of text t, t, ts) n.0 p.1 in
      let here : (record { negative = minus; magnitude = number_of text t; first = first; last = t }, ts) ≡ x =
      ap (λ (m : ℕ × Token × List Token). let y : SignedNumber × List Token = (record { negative = minus; magnitude = m.0; first = first; last = m.1 }, m.2) in y) number ∙ same_ok (record { negative = minus; magnitude = n.0.0; first = first; last = n.0.1 }, n.0.2) x n.2 in
      subst (TakesSigned text minus first (t ∷ ts)) here (record { digits = t; cut = refl; kind = p.0; same = refl })

  with_sign : (minus : Bool) (s : Token) (ts : List Token) (x : SignedNumber × List Token) → ((t : Token) → is_number_kind t.kind ≡ true → IsInteger text minus (number_of text t) (s ∷ t ∷ [])) → signed_at text minus s ts ≡ Ok x → TakesInteger text (s ∷ ts) x
  with_sign minus s ts x make e =
      let h = signed_takes minus s ts x e in
      record {
        front = s ∷ h.digits ∷ [];
        cut = ap (λ r. s ∷ r) h.cut;
        last = λ t. ap (λ n. n.last) h.same;
        integer = subst (λ (n : SignedNumber). IsInteger text n.negative n.magnitude (s ∷ h.digits ∷ [])) h.same (make h.digits h.kind);
      }

  without_sign : (first : Token) (ts : List Token) (x : SignedNumber × List Token) → signed_at text false first ts ≡ Ok x → TakesInteger text ts x
  without_sign first ts x e =
      let h = signed_takes false first ts x e in
      record {
        front = h.digits ∷ [];
        cut = h.cut;
        last = λ t. ap (λ n. n.last) h.same;
        integer = subst (λ (n : SignedNumber). IsInteger text n.negative n.magnitude (h.digits ∷ [])) h.same (unsigned h.digits h.kind);
      }

  pub integer_takes : (tokens : List Token) (x : SignedNumber × List Token) → integer_at text tokens ≡ Ok x → TakesInteger text tokens x
  unfolding integer_at
  integer_takes [] x e = absurd cc
  integer_takes (t ∷ ts) x e = by (is_sign text t (codes "-")) refl (is_sign text t (codes "+")) refl e
    where
      by : (a : Bool) → is_sign text t (codes "-") ≡ a → (b : Bool) → is_sign text t (codes "+") ≡ b → cond {A = Result (SignedNumber × List Token) Fault} a (signed_at text true t ts) (cond {A = Result (SignedNumber × List Token) Fault} b (signed_at text false t ts) (signed_at text false t (t ∷ ts))) ≡ Ok x → TakesInteger text (t ∷ ts) x
      by true is b h e = with_sign true t ts x (λ u kind. negative t u is kind) e
      by false is true h e = with_sign false t ts x (λ u kind. positive t u h kind) e
      by false is false h e = without_sign t (t ∷ ts) x e
