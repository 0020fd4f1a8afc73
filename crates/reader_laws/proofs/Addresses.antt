-- What is read behind a word of the table is spelled so.
use Rattle.std.proofs.Common.{◌≡◌, ℕ, List, [], ◌∷◌, ◌++◌, refl, subst, ap, sym, ◌∙◌, true, false}
use Rattle.std.specs.Prelude.{Result, Ok, nat_le, codes}
use Rattle.stl_lex.specs.declared.token.Token.{Token}
use Rattle.stl_decl.specs.declared.fault.Fault.{Fault}
use Rattle.stl_decl.specs.declared.fault.FaultKind.TheVariants.{BadOperand}
use Rattle.stl_decl.specs.Steps.{fault_at}
use Rattle.stl_reader.specs.declared.forms.OperandForm.{OperandForm}
use Rattle.stl_reader.specs.declared.forms.OperandForm.TheVariants as forms
use Rattle.stl_reader.specs.declared.words.OperandWord.{OperandWord}
use Rattle.stl_reader.specs.declared.addresses.Operand.{Operand}
use Rattle.stl_reader.specs.Addresses.{judged, part_number, part_sign, address, word_operand, bit_operand, byte_operand}
use Rattle.stl_reader.specs.Operands.{plain_operand}
use Rattle.stl_reader.proofs.Language.{bind_ok}
use Rattle.reader_laws.specs.Operands.{IsAddress, of_bit, of_number, of_word, is_bare, is_numbered, operand, last_of}
use Rattle.reader_laws.proofs.Rows.{is_plain}
use Rattle.reader_laws.proofs.Steps.{if_ok, same_ok, number_takes, address_takes, sign_takes}

-- the address that was taken behind the word of the row
pub record TakesAddress (text : List ℕ) (row : OperandWord) (first : Token) (tokens : List Token) (x : Operand × Token × List Token) : Type 0 where
  pub bit : ℕ
  pub value : ℕ
  pub front : List Token
  pub cut : tokens ≡ front ++ x.2
  pub last : last_of first front ≡ x.1
  pub address : IsAddress text row bit value front
  pub operand : operand row.area bit 0 value ≡ x.0

module _ (text mnemonic : List ℕ) (row : OperandWord) (first : Token) (tokens : List Token) (x : Operand × Token × List Token) where
  bit_takes : row.form ≡ forms.Bit → bit_operand text mnemonic row first tokens ≡ Ok x → TakesAddress text row first tokens x
  unfolding bit_operand
  bit_takes form e =
      let byte = bind_ok (address text mnemonic tokens) _ x e in
      let dot = bind_ok (part_sign text mnemonic (codes ".") byte.0.2) _ x byte.2 in
      let bit = bind_ok (part_number text mnemonic dot.0.1) _ x dot.2 in
      let small = bind_ok (judged (nat_le bit.0.0 7) first) _ x bit.2 in
      let same = same_ok (operand row.area bit.0.0 0 byte.0.0, bit.0.1, bit.0.2) x small.2 in
      let a = address_takes text mnemonic tokens byte.0 byte.1 in
      let d = sign_takes text mnemonic (codes ".") byte.0.2 dot.0 dot.1 in
      let n = number_takes text mnemonic dot.0.1 bit.0 bit.1 in
      let j = if_ok (nat_le bit.0.0 7) (Ok tt) (fault_at BadOperand first) small.0 small.1 in
      subst (TakesAddress text row first tokens) same (record {
        bit = bit.0.0;
        value = byte.0.0;
        front = byte.0.1 ∷ dot.0.0 ∷ bit.0.1 ∷ [];
        cut = a.cut ∙ ap (λ r. byte.0.1 ∷ r) (d.cut ∙ ap (λ r. dot.0.0 ∷ r) n.cut);
        last = refl;
        address = of_bit byte.0.0 bit.0.0 byte.0.1 dot.0.0 bit.0.1 form a.number d.is n.number j.0;
        operand = refl;
      })

  pub byte_takes : is_numbered row.form ≡ true → byte_operand text mnemonic row tokens ≡ Ok x → TakesAddress text row first tokens x
  unfolding byte_operand
  byte_takes form e =
      let n = bind_ok (address text mnemonic tokens) _ x e in
      let same = same_ok (operand row.area row.unit 0 n.0.0, n.0.1, n.0.2) x n.2 in
      let a = address_takes text mnemonic tokens n.0 n.1 in
      subst (TakesAddress text row first tokens) same (record {
        bit = row.unit;
        value = n.0.0;
        front = n.0.1 ∷ [];
        cut = a.cut;
        last = refl;
        address = of_number n.0.0 n.0.1 form a.number;
        operand = refl;
      })

  bare_takes : is_bare row.form ≡ true → (let r : Result (Operand × Token × List Token) Fault = Ok (word_operand row, first, tokens) in r ≡ Ok x) → TakesAddress text row first tokens x
  bare_takes form e =
      subst (TakesAddress text row first tokens) (same_ok (word_operand row, first, tokens) x e) (record {
        bit = row.unit;
        value = row.value;
        front = [];
        cut = refl;
        last = refl;
        address = of_word form;
        operand = refl;
      })

  none : (form : OperandForm) → row.form ≡ form → is_plain row.form ≡ true → is_plain form ≡ false → TakesAddress text row first tokens x
  none form is h k = let wrong : true ≡ false = sym h ∙ (ap is_plain is ∙ k) in absurd cc

  -- by the form of the row
  pub plain_takes : (form : OperandForm) → row.form ≡ form → is_plain row.form ≡ true → (form ≡ forms.SystemFunction → ⊥) → plain_operand form text mnemonic row first tokens ≡ Ok x → TakesAddress text row first tokens x
  plain_takes forms.Bit is h other e = bit_takes is e
  plain_takes forms.Status is h other e = bare_takes (ap is_bare is) e
  plain_takes forms.StatusWord is h other e = bare_takes (ap is_bare is) e
  plain_takes forms.DataRegister is h other e = bare_takes (ap is_bare is) e
  plain_takes forms.Value is h other e = byte_takes (ap is_numbered is) e
  plain_takes forms.PeripheralIn is h other e = byte_takes (ap is_numbered is) e
  plain_takes forms.PeripheralOut is h other e = byte_takes (ap is_numbered is) e
  plain_takes forms.Timer is h other e = byte_takes (ap is_numbered is) e
  plain_takes forms.Counter is h other e = byte_takes (ap is_numbered is) e
  plain_takes forms.DataBlock is h other e = byte_takes (ap is_numbered is) e
  plain_takes forms.InstanceBlock is h other e = byte_takes (ap is_numbered is) e
  plain_takes forms.Function is h other e = byte_takes (ap is_numbered is) e
  plain_takes forms.FunctionBlock is h other e = byte_takes (ap is_numbered is) e
  plain_takes forms.SystemFunction is h other e = absurd (other refl)
  plain_takes forms.Number is h other e = none forms.Number is h refl
  plain_takes forms.SignedNumber is h other e = none forms.SignedNumber is h refl
  plain_takes forms.LongInteger is h other e = none forms.LongInteger is h refl
  plain_takes forms.WordPattern is h other e = none forms.WordPattern is h refl
  plain_takes forms.DoubleWordPattern is h other e = none forms.DoubleWordPattern is h refl
  plain_takes forms.OtherLiteral is h other e = none forms.OtherLiteral is h refl
  plain_takes forms.Label is h other e = none forms.Label is h refl
  plain_takes forms.FunctionBlockWithData is h other e = none forms.FunctionBlockWithData is h refl
