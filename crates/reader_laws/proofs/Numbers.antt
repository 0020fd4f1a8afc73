-- What is read as a number is spelled so.
use Rattle.std.proofs.Common.{◌≡◌, ℕ, List, ◌∷◌, ◌++◌, refl, subst, ap, ◌∙◌, Bool, true, false, cond}
use Rattle.std.specs.Prelude.{Result, Ok, codes}
use Rattle.std.specs.Str.{bytes_eq}
use Rattle.std.proofs.lemmas.Bool.{and_parts}
use Rattle.instruction_set.specs.declared.operands.OperandArea.TheVariants.{Word}
use Rattle.stl_lex.specs.declared.piece.TokenKind.{TokenKind}
use Rattle.stl_lex.specs.declared.piece.TokenKind.TheVariants as kinds
use Rattle.stl_lex.specs.declared.token.Token.{Token}
use Rattle.stl_decl.specs.declared.fault.Fault.{Fault}
use Rattle.stl_decl.specs.declared.fault.FaultKind.TheVariants.{BadOperand}
use Rattle.stl_decl.specs.declared.constants.Value.{Value}
use Rattle.stl_decl.specs.Steps.{spelling, is_number_kind, is_sign_kind, integer_at, fault_at}
use Rattle.stl_decl.specs.Types.{is_int}
use Rattle.stl_decl.specs.Constants.{stored, begins_integer, integer_constant, integer_value, integer_value_at, value_at, single_value, constant_of}
use Rattle.stl_reader.specs.declared.forms.OperandForm.TheVariants as forms
use Rattle.stl_reader.specs.declared.addresses.Operand.{Operand}
use Rattle.stl_reader.specs.Constants.{constant_operand, number_operand}
use Rattle.stl_reader.proofs.Language.{bind_ok}
use Rattle.reader_laws.specs.Tokens.{IsSign}
use Rattle.reader_laws.specs.Operands.{IsInteger, unsigned, positive, negative, is_in_range, number_form, operand, last_of}
use Rattle.reader_laws.proofs.Steps.{if_ok, same_ok, integer_takes}

pub when : {A : Type 0} (b : Bool) (r s : Result A Fault) (x : A) → b ≡ true → cond b r s ≡ Ok x → r ≡ Ok x
when true r s x h e = e
when false r s x h e = absurd cc

pub unless : {A : Type 0} (b : Bool) (r s : Result A Fault) (x : A) → b ≡ false → cond b r s ≡ Ok x → s ≡ Ok x
unless false r s x h e = e
unless true r s x h e = absurd cc

not_both : (k : TokenKind) → is_number_kind k ≡ true → is_sign_kind k ≡ true → ⊥
not_both kinds.Number h s = cc
not_both _ h s = cc

pub sign_kind : (text sign : List ℕ) (t : Token) → IsSign text sign t → is_sign_kind t.kind ≡ true
sign_kind text sign t h = (and_parts (is_sign_kind t.kind) (bytes_eq (spelling text t) sign) h).0

-- a number from -32,768 to 32,767 was taken
pub record TakesConstant (text : List ℕ) (tokens : List Token) (x : Operand × Token × List Token) : Type 0 where
  pub minus : Bool
  pub magnitude : ℕ
  pub front : List Token
  pub cut : tokens ≡ front ++ x.2
  pub last : (t : Token) → last_of t front ≡ x.1
  pub integer : IsInteger text minus magnitude front
  pub range : is_in_range minus magnitude ≡ true
  pub operand : operand Word 0 0 (stored minus 65536 magnitude) ≡ x.0

module _ (text : List ℕ) where
  abbrev number_of_value : Value × List Token → Operand × Token × List Token
  number_of_value v = (constant_operand v.0.constant, v.0.last, v.1)

  pub constant_takes : (t : Token) (ts : List Token) (x : Operand × Token × List Token) → begins_integer text t ≡ true → number_operand text (t ∷ ts) ≡ Ok x → TakesConstant text (t ∷ ts) x
  unfolding number_operand integer_value_at
  constant_takes t ts x begins e =
      let v = bind_ok (value_at text (t ∷ ts)) (λ value. Ok (number_of_value value)) x e in
      let i = when (begins_integer text t) (integer_value_at text (t ∷ ts)) (single_value (constant_of text t) text t ts) v.0 begins v.1 in
      let n = bind_ok (integer_at text (t ∷ ts)) (λ number. integer_value number.0 number.1) v.0 i in
      let p = if_ok (is_int n.0.0) (Ok (record { constant = integer_constant n.0.0; first = n.0.0.first; last = n.0.0.last }, n.0.1)) (fault_at BadOperand n.0.0.first) v.0 n.2 in
      let h = integer_takes text (t ∷ ts) n.0 n.1 in
      let value : (record { constant = integer_constant n.0.0; first = n.0.0.first; last = n.0.0.last }, n.0.1) ≡ v.0 = same_ok _ v.0 p.1 in
      let same = ap number_of_value value ∙ same_ok (number_of_value v.0) x v.2 in
      subst (TakesConstant text (t ∷ ts)) same (record {
        minus = n.0.0.negative;
        magnitude = n.0.0.magnitude;
        front = h.front;
        cut = h.cut;
        last = h.last;
        integer = h.integer;
        range = p.0;
        operand = refl;
      })

  -- a number without a sign
  pub without : (minus : Bool) (n : ℕ) (front : List Token) (t : Token) (ts rest : List Token) → IsInteger text minus n front → t ∷ ts ≡ front ++ rest → is_number_kind t.kind ≡ true → number_form front ≡ forms.Number
  without minus n front t ts rest (unsigned u kind) cut h = refl
  without minus n front t ts rest (positive s u sign kind) cut h =
      let same : t ≡ s = cc in absurd (not_both t.kind h (ap (λ (v : Token). is_sign_kind v.kind) same ∙ sign_kind text (codes "+") s sign))
  without minus n front t ts rest (negative s u sign kind) cut h =
      let same : t ≡ s = cc in absurd (not_both t.kind h (ap (λ (v : Token). is_sign_kind v.kind) same ∙ sign_kind text (codes "-") s sign))

  -- a number with a sign
  pub behind : (minus : Bool) (n : ℕ) (front : List Token) (t : Token) (ts rest : List Token) → IsInteger text minus n front → t ∷ ts ≡ front ++ rest → is_sign_kind t.kind ≡ true → number_form front ≡ forms.SignedNumber
  behind minus n front t ts rest (unsigned u kind) cut h =
      let same : t ≡ u = cc in absurd (not_both t.kind (ap (λ (v : Token). is_number_kind v.kind) same ∙ kind) h)
  behind minus n front t ts rest (positive s u sign kind) cut h = refl
  behind minus n front t ts rest (negative s u sign kind) cut h = refl
