-- Numbers that are spelled so are read.
use Rattle.std.proofs.Common.{◌≡◌, ℕ, List, [], ◌∷◌, ◌++◌, refl, ap, ◌∙◌, Bool, true, false, ◌&&◌, ◌||◌}
use Rattle.std.specs.Prelude.{Ok, None, codes}
use Rattle.std.specs.Str.{bytes_eq}
use Rattle.std.proofs.lemmas.Bool.{and_parts, and_right, or_parts, or_left, or_right}
use Rattle.std.proofs.lemmas.Slice.Eq.{bytes_eq-Decides}
use Rattle.instruction_set.specs.declared.operands.OperandArea.TheVariants as areas
use Rattle.stl_lex.specs.declared.piece.TokenKind.{TokenKind}
use Rattle.stl_lex.specs.declared.piece.TokenKind.TheVariants as kinds
use Rattle.stl_lex.specs.declared.token.Token.{Token}
use Rattle.stl_decl.specs.Layout.{Section}
use Rattle.stl_decl.specs.Steps.{spelling, is_number_kind, is_sign_kind, is_sign, number_of, signed_at, integer_at}
use Rattle.stl_decl.specs.Constants.{stored, begins_integer, integer_value_at}
use Rattle.stl_reader.specs.declared.forms.OperandForm.TheVariants as forms
use Rattle.stl_reader.specs.declared.addresses.Operand.{Operand}
use Rattle.stl_reader.specs.Forms.{accepts}
use Rattle.stl_reader.specs.Words.{status_sign}
use Rattle.stl_reader.specs.Constants.{is_plus_or_minus, is_fraction, is_real, number_operand, unsigned_operand, signed_operand}
use Rattle.stl_reader.specs.Statements.{kind_operand, operand_at}
use Rattle.reader_laws.specs.Tokens.{IsSign}
use Rattle.reader_laws.specs.Operands.{IsInteger, unsigned, positive, negative, is_in_range, number_form, operand, last_of}
use Rattle.reader_laws.specs.Spelled.{goes_on}
use Rattle.reader_laws.specs.Values.{first_in}
use Rattle.reader_laws.proofs.Again.{number_no_sign}
use Rattle.reader_laws.proofs.Compared.{sign_is, sign_kind_again}

pub number_is : (k : TokenKind) → is_number_kind k ≡ true → k ≡ kinds.Number
number_is kinds.Number h = refl
number_is _ h = absurd cc

-- the token is one sign only
pub letters : (text sign : List ℕ) (t : Token) → IsSign text sign t → spelling text t ≡ sign
letters text sign t h = (bytes_eq-Decides (spelling text t) sign).0 (and_parts (is_sign_kind t.kind) (bytes_eq (spelling text t) sign) h).1

pub other_sign : (text a b : List ℕ) (t : Token) → IsSign text a t → bytes_eq a b ≡ false → is_sign text t b ≡ false
other_sign text a b t h e = ap (λ w. is_sign_kind t.kind && bytes_eq w b) (letters text a t h) ∙ and_right (is_sign_kind t.kind) (bytes_eq a b) e

no_sign : (text sign : List ℕ) (t : Token) → is_number_kind t.kind ≡ true → is_sign text t sign ≡ false
no_sign text sign t h = ap (λ b. b && bytes_eq (spelling text t) sign) (number_no_sign t.kind h)

-- a number with its sign is read
pub record ReadsInteger (text : List ℕ) (minus : Bool) (n : ℕ) (front rest : List Token) : Type 0 where
  pub first : Token
  pub read : (t : Token) → integer_at text (front ++ rest) ≡ Ok (record { negative = minus; magnitude = n; first = first; last = last_of t front }, rest)

module _ (text : List ℕ) where
  signed_again : (minus : Bool) (first t : Token) (rest : List Token) → is_number_kind t.kind ≡ true → signed_at text minus first (t ∷ rest) ≡ Ok (record { negative = minus; magnitude = number_of text t; first = first; last = t }, rest)
  unfolding signed_at
  signed_again minus first t rest h = rw h refl

  pub integer_again : (minus : Bool) (n : ℕ) (front rest : List Token) → IsInteger text minus n front → ReadsInteger text minus n front rest
  unfolding integer_at
  integer_again minus n front rest (unsigned t h) = record { first = t; read = λ l. rw (no_sign text (codes "-") t h, no_sign text (codes "+") t h) (signed_again false t t rest h) }
  integer_again minus n front rest (positive s t sign h) = record { first = s; read = λ l. rw (other_sign text (codes "+") (codes "-") s sign refl, sign) (signed_again false s t rest h) }
  integer_again minus n front rest (negative s t sign h) = record { first = s; read = λ l. rw sign (signed_again true s t rest h) }

  -- its first token is the first of these
  pub integer_from : (minus : Bool) (n : ℕ) (front rest : List Token) (l : Token) → IsInteger text minus n front → integer_at text (front ++ rest) ≡ Ok (record { negative = minus; magnitude = n; first = first_in l front; last = last_of l front }, rest)
  unfolding integer_at
  integer_from minus n front rest l (unsigned t h) = rw (no_sign text (codes "-") t h, no_sign text (codes "+") t h) (signed_again false t t rest h)
  integer_from minus n front rest l (positive s t sign h) = rw (other_sign text (codes "+") (codes "-") s sign refl, sign) (signed_again false s t rest h)
  integer_from minus n front rest l (negative s t sign h) = rw sign (signed_again true s t rest h)

  no_fraction : (rest : List Token) → goes_on text rest ≡ false → is_fraction text rest ≡ false
  no_fraction [] h = refl
  no_fraction (t ∷ ts) h = rw ((or_parts (is_sign text t (codes ".")) (is_sign text t (codes "[")) h).0) refl

  no_figure : (t : Token) (rest : List Token) → is_number_kind t.kind ≡ true → goes_on text rest ≡ false → is_real text (t ∷ rest) ≡ false
  no_figure t rest h stops = let is = number_is t.kind h in rw (is, no_fraction rest stops) refl

  no_signed_figure : (s t : Token) (rest : List Token) → is_plus_or_minus text s ≡ true → is_number_kind t.kind ≡ true → goes_on text rest ≡ false → is_real text (s ∷ t ∷ rest) ≡ false
  no_signed_figure s t rest sign h stops = let is = number_is t.kind h in rw (sign, is, no_fraction rest stops) refl

  value_again : (minus : Bool) (n : ℕ) (t : Token) (ts rest : List Token) → begins_integer text t ≡ true → IsInteger text minus n (t ∷ ts) → is_in_range minus n ≡ true → number_operand text (t ∷ (ts ++ rest)) ≡ Ok (operand areas.Word 0 0 (stored minus 65536 n), last_of t ts, rest)
  unfolding number_operand integer_value_at
  value_again minus n t ts rest begins h range = rw (begins, (integer_again minus n (t ∷ ts) rest h).read t, range) refl

  unsigned_kind : (kind : TokenKind) (temps : Section) (mnemonic : List ℕ) (t : Token) (rest tokens : List Token) (r : Operand × Token × List Token) → kind ≡ kinds.Number → unsigned_operand text mnemonic t tokens ≡ Ok r → kind_operand kind text temps mnemonic t rest tokens ≡ Ok r
  unsigned_kind kinds.Number temps mnemonic t rest tokens r is e = e
  unsigned_kind _ temps mnemonic t rest tokens r is e = absurd cc

  pub unsigned_read : (temps : Section) (mnemonic : List ℕ) (t : Token) (rest : List Token) → is_number_kind t.kind ≡ true → is_in_range false (number_of text t) ≡ true → accepts mnemonic forms.Number ≡ true → goes_on text rest ≡ false → operand_at text temps mnemonic (t ∷ rest) ≡ Ok (operand areas.Word 0 0 (stored false 65536 (number_of text t)), t, rest)
  unfolding operand_at unsigned_operand
  unsigned_read temps mnemonic t rest h range takes stops =
      let begins : begins_integer text t ≡ true = ap (λ b. b || is_sign text t (codes "-") || is_sign text t (codes "+")) h in
      rw (no_figure t rest h stops)
      (unsigned_kind t.kind temps mnemonic t rest (t ∷ rest) (operand areas.Word 0 0 (stored false 65536 (number_of text t)), t, rest) (number_is t.kind h)
      (rw takes (value_again false (number_of text t) t [] rest begins (unsigned t h) range)))

  signed_sign : (temps : Section) (mnemonic sign : List ℕ) (minus : Bool) (n : ℕ) (s t : Token) (rest : List Token) → IsSign text sign s → status_sign sign ≡ None → is_plus_or_minus text s ≡ true → is_number_kind t.kind ≡ true → IsInteger text minus n (s ∷ t ∷ []) → is_in_range minus n ≡ true → accepts mnemonic forms.SignedNumber ≡ true → goes_on text rest ≡ false → operand_at text temps mnemonic (s ∷ t ∷ rest) ≡ Ok (operand areas.Word 0 0 (stored minus 65536 n), t, rest)
  unfolding operand_at signed_operand
  signed_sign temps mnemonic sign minus n s t rest is none sum h integer range takes stops =
      let kind = sign_is s.kind (and_parts (is_sign_kind s.kind) (bytes_eq (spelling text s) sign) is).0 in
      let begins : begins_integer text s ≡ true = begins_by (is_number_kind s.kind) (is_sign text s (codes "+")) (is_sign text s (codes "-")) sum in
      rw (no_signed_figure s t rest sum h stops)
      (sign_kind_again s.kind text temps mnemonic s (t ∷ rest) (s ∷ t ∷ rest) (operand areas.Word 0 0 (stored minus 65536 n), t, rest) kind
      (rw (ap status_sign (letters text sign s is) ∙ none, sum, takes) (value_again minus n s (t ∷ []) rest begins integer range)))
    where
      begins_by : (a b c : Bool) → (b || c) ≡ true → (a || c || b) ≡ true
      begins_by true b c h = refl
      begins_by false b true h = refl
      begins_by false true false h = refl
      begins_by false false false h = absurd cc

  no_plus : status_sign (codes "+") ≡ None
  unfolding status_sign
  no_plus = refl

  no_minus : status_sign (codes "-") ≡ None
  unfolding status_sign
  no_minus = refl

  pub number_read : (temps : Section) (mnemonic : List ℕ) (minus : Bool) (n : ℕ) (front rest : List Token) (l : Token) → IsInteger text minus n front → is_in_range minus n ≡ true → accepts mnemonic (number_form front) ≡ true → goes_on text rest ≡ false → operand_at text temps mnemonic (front ++ rest) ≡ Ok (operand areas.Word 0 0 (stored minus 65536 n), last_of l front, rest)
  number_read temps mnemonic minus n front rest l (unsigned t h) range takes stops = unsigned_read temps mnemonic t rest h range takes stops
  number_read temps mnemonic minus n front rest l (positive s t sign h) range takes stops =
      signed_sign temps mnemonic (codes "+") minus n s t rest sign no_plus (or_left (is_sign text s (codes "+")) (is_sign text s (codes "-")) sign) h (positive s t sign h) range takes stops
  number_read temps mnemonic minus n front rest l (negative s t sign h) range takes stops =
      signed_sign temps mnemonic (codes "-") minus n s t rest sign no_minus (or_right (is_sign text s (codes "+")) (is_sign text s (codes "-")) sign) h (negative s t sign h) range takes stops
