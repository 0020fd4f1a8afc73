-- What is read as an operand is spelled so.
use Rattle.std.proofs.Common.{◌≡◌, ℕ, List, [], ◌∷◌, refl, subst, ap, sym, ◌∙◌, Bool, true, false, ◌⊎◌, inl, inr}
use Rattle.std.specs.Prelude.{Ok, Option, Some, None, ◌&&◌, ◌||◌, codes}
use Rattle.std.specs.Str.{bytes_eq}
use Rattle.std.proofs.lemmas.Bool.{and_parts}
use Rattle.std.proofs.lemmas.Slice.Eq.{bytes_eq-Decides}
use Rattle.instruction_set.specs.declared.operands.OperandArea.TheVariants as areas
use Rattle.stl_lex.specs.Bytes.{letters_of}
use Rattle.stl_lex.specs.declared.piece.TokenKind.{TokenKind}
use Rattle.stl_lex.specs.declared.piece.TokenKind.TheVariants as kinds
use Rattle.stl_lex.specs.declared.token.Token.{Token}
use Rattle.stl_decl.specs.declared.fault.FaultKind.TheVariants.{RealInstruction}
use Rattle.stl_decl.specs.declared.constants.Constant.{Constant}
use Rattle.stl_decl.specs.Layout.{Section}
use Rattle.stl_decl.specs.Steps.{◌>>=◌, spelling, fault_at, is_number_kind, is_sign_kind, is_word_kind, is_sign}
use Rattle.stl_decl.specs.Constants.{constant_of, begins_integer}
use Rattle.stl_reader.specs.declared.forms.OperandForm.{OperandForm}
use Rattle.stl_reader.specs.declared.forms.OperandForm.TheVariants as forms
use Rattle.stl_reader.specs.declared.words.StatusSign.{StatusSign}
use Rattle.stl_reader.specs.declared.addresses.Operand.{Operand}
use Rattle.stl_reader.specs.Forms.{accepts}
use Rattle.stl_reader.specs.Words.{status_sign}
use Rattle.stl_reader.specs.Addresses.{refused, taken}
use Rattle.stl_reader.specs.Constants.{is_plus_or_minus, is_real, form_of, constant_operand, number_operand, unsigned_operand, single_operand, is_zero, zero_at, status_operand, signed_operand, sign_by}
use Rattle.stl_reader.specs.Statements.{kind_operand, operand_at}
use Rattle.stl_reader.proofs.Language.{bind_ok}
use Rattle.reader_laws.specs.Tokens.{IsSign}
use Rattle.reader_laws.specs.Operands.{number_form, operand, IsOperand, by_sign, by_number, by_literal, IsReadAs}
use Rattle.reader_laws.proofs.Steps.{if_ok, if_not, same_ok}
use Rattle.reader_laws.proofs.Rows.{sign_found}
use Rattle.reader_laws.proofs.Numbers.{TakesConstant, constant_takes, without, behind}
use Rattle.reader_laws.proofs.Words.{area_takes}
use Rattle.reader_laws.proofs.Locals.{local_takes}

signs_begin : (a b c : Bool) → (b || c) ≡ true → (a || c || b) ≡ true
signs_begin true b c h = refl
signs_begin false b true h = refl
signs_begin false true false h = refl
signs_begin false false false h = absurd cc

module _ (text : List ℕ) (temps : Section) (mnemonic : List ℕ) (first : Token) (rest : List Token) (x : Operand × Token × List Token) where
  abbrev Reads : Type 0
  Reads = IsReadAs text temps mnemonic (first ∷ rest) x

  numbered : (form : OperandForm) → accepts mnemonic form ≡ true → (h : TakesConstant text (first ∷ rest) x) → number_form h.front ≡ form → Reads
  numbered form takes h is = record {
    form = number_form h.front;
    front = h.front;
    cut = h.cut;
    last = h.last x.1;
    takes = ap (accepts mnemonic) is ∙ takes;
    spelled = subst (λ o. IsOperand text temps (number_form h.front) o h.front) h.operand (by_number h.minus h.magnitude h.front h.integer h.range);
  }

  unsigned_takes : first.kind ≡ kinds.Number → unsigned_operand text mnemonic first (first ∷ rest) ≡ Ok x → Reads
  unfolding unsigned_operand
  unsigned_takes kind e =
      let t = bind_ok (taken text mnemonic forms.Number first) (λ number. number_operand text (first ∷ rest)) x e in
      let a = if_ok (accepts mnemonic forms.Number) (Ok tt) (refused text mnemonic first) t.0 t.1 in
      let number : is_number_kind first.kind ≡ true = ap is_number_kind kind in
      let begins : begins_integer text first ≡ true = ap (λ b. b || is_sign text first (codes "-") || is_sign text first (codes "+")) number in
      let h = constant_takes text first rest x begins t.2 in
      numbered forms.Number a.0 h (without text h.minus h.magnitude h.front first rest x.2 h.integer h.cut number)

  signed_takes : first.kind ≡ kinds.Sign → signed_operand text mnemonic first (first ∷ rest) ≡ Ok x → Reads
  unfolding signed_operand
  signed_takes kind e =
      let p = if_ok (is_plus_or_minus text first) (taken text mnemonic forms.SignedNumber first >>= λ sign. number_operand text (first ∷ rest)) (refused text mnemonic first) x e in
      let t = bind_ok (taken text mnemonic forms.SignedNumber first) (λ sign. number_operand text (first ∷ rest)) x p.1 in
      let a = if_ok (accepts mnemonic forms.SignedNumber) (Ok tt) (refused text mnemonic first) t.0 t.1 in
      let begins : begins_integer text first ≡ true = signs_begin (is_number_kind first.kind) (is_sign text first (codes "+")) (is_sign text first (codes "-")) p.0 in
      let h = constant_takes text first rest x begins t.2 in
      numbered forms.SignedNumber a.0 h (behind text h.minus h.magnitude h.front first rest x.2 h.integer h.cut (ap is_sign_kind kind))

  single_takes : (o : Option Constant) → (first.kind ≡ kinds.Literal) ⊎ (first.kind ≡ kinds.Characters) → constant_of text first ≡ o → single_operand o text mnemonic first rest ≡ Ok x → Reads
  single_takes None kind is e = absurd cc
  single_takes (Some c) kind is e =
      let t = bind_ok (taken text mnemonic (form_of c.form) first) (λ constant. Ok (constant_operand c, first, rest)) x e in
      let a = if_ok (accepts mnemonic (form_of c.form)) (Ok tt) (refused text mnemonic first) t.0 t.1 in
      subst (IsReadAs text temps mnemonic (first ∷ rest)) (same_ok (constant_operand c, first, rest) x t.2) (record {
        form = form_of c.form;
        front = first ∷ [];
        cut = refl;
        last = refl;
        takes = a.0;
        spelled = by_literal c first kind is;
      })

  zero_takes : (row : StatusSign) (tokens : List Token) (z : Token × List Token) → first.kind ≡ kinds.Sign → status_sign (spelling text first) ≡ Some row → accepts mnemonic forms.Status ≡ true → rest ≡ tokens → zero_at text mnemonic tokens ≡ Ok z → (operand areas.Status 0 0 row.value, z.0, z.1) ≡ x → Reads
  zero_takes row [] z kind is takes cut e same = absurd cc
  zero_takes row (t ∷ ts) z kind is takes cut e same =
      let p = if_ok (is_zero text t) (Ok (t, ts)) (refused text mnemonic t) z e in
      let parts = and_parts (is_number_kind t.kind) (bytes_eq (spelling text t) (codes "0")) p.0 in
      let here : (operand areas.Status 0 0 row.value, t, ts) ≡ x = ap (λ (y : Token × List Token). let r : Operand × Token × List Token = (operand areas.Status 0 0 row.value, y.0, y.1) in r) (same_ok (t, ts) z p.1) ∙ same in
      let f = sign_found (spelling text first) row is in
      let letters : letters_of row.sign ≡ spelling text first = (bytes_eq-Decides (letters_of row.sign) (spelling text first)).0 f.1 in
      let sign : IsSign text (letters_of row.sign) first =
      ap (λ b. b && bytes_eq (spelling text first) (letters_of row.sign)) (ap is_sign_kind kind) ∙ (bytes_eq-Decides (spelling text first) (letters_of row.sign)).1 (sym letters) in
      subst (IsReadAs text temps mnemonic (first ∷ rest)) here (record {
        form = forms.Status;
        front = first ∷ t ∷ [];
        cut = ap (λ r. first ∷ r) cut;
        last = refl;
        takes = takes;
        spelled = by_sign row first t f.0 sign parts.0 ((bytes_eq-Decides (spelling text t) (codes "0")).0 parts.1);
      })

  sign_takes : (o : Option StatusSign) → first.kind ≡ kinds.Sign → status_sign (spelling text first) ≡ o → sign_by o text mnemonic first rest (first ∷ rest) ≡ Ok x → Reads
  unfolding status_operand
  sign_takes None kind is e = signed_takes kind e
  sign_takes (Some row) kind is e =
      let t = bind_ok (taken text mnemonic forms.Status first) (λ status. zero_at text mnemonic rest >>= λ zero. Ok (operand areas.Status 0 0 row.value, zero.0, zero.1)) x e in
      let a = if_ok (accepts mnemonic forms.Status) (Ok tt) (refused text mnemonic first) t.0 t.1 in
      let z = bind_ok (zero_at text mnemonic rest) (λ zero. Ok (operand areas.Status 0 0 row.value, zero.0, zero.1)) x t.2 in
      zero_takes row rest z.0 kind is a.0 refl z.1 (same_ok (operand areas.Status 0 0 row.value, z.0.0, z.0.1) x z.2)

  kind_takes : (kind : TokenKind) → first.kind ≡ kind → kind_operand kind text temps mnemonic first rest (first ∷ rest) ≡ Ok x → Reads
  kind_takes kinds.Local is e = local_takes text temps mnemonic first rest x is e
  kind_takes kinds.Word is e = area_takes text temps mnemonic first rest x (ap is_word_kind is) e
  kind_takes kinds.Number is e = unsigned_takes is e
  kind_takes kinds.Literal is e = single_takes (constant_of text first) (inl is) refl e
  kind_takes kinds.Characters is e = single_takes (constant_of text first) (inr is) refl e
  kind_takes kinds.Sign is e = sign_takes (status_sign (spelling text first)) is refl e
  kind_takes _ is e = absurd cc

pub operand_takes : (text : List ℕ) (temps : Section) (mnemonic : List ℕ) (tokens : List Token) (x : Operand × Token × List Token) → operand_at text temps mnemonic tokens ≡ Ok x → IsReadAs text temps mnemonic tokens x
unfolding operand_at
operand_takes text temps mnemonic [] x e = absurd cc
operand_takes text temps mnemonic (t ∷ ts) x e =
    let p = if_not (is_real text (t ∷ ts)) (fault_at RealInstruction t) (kind_operand t.kind text temps mnemonic t ts (t ∷ ts)) x e in
    kind_takes text temps mnemonic t ts x t.kind refl p.1
