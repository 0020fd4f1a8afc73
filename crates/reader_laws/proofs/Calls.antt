-- Calls, labels and literals that are spelled so are read.
use Rattle.std.proofs.Common.{◌≡◌, ℕ, List, ◌∷◌, refl, true, false, ◌⊎◌, inl, inr}
use Rattle.std.specs.Prelude.{Ok, Some, codes}
use Rattle.instruction_set.specs.declared.operands.OperandArea.TheVariants as areas
use Rattle.s7_base.specs.Operands.{is_data_number}
use Rattle.stl_lex.specs.declared.piece.TokenKind.{TokenKind}
use Rattle.stl_lex.specs.declared.piece.TokenKind.TheVariants as kinds
use Rattle.stl_lex.specs.declared.token.Token.{Token}
use Rattle.stl_decl.specs.declared.constants.Constant.{Constant}
use Rattle.stl_decl.specs.Constants.{constant_of}
use Rattle.stl_decl.specs.Layout.{Section}
use Rattle.stl_decl.specs.Steps.{spelling, is_word_kind, is_word}
use Rattle.stl_reader.specs.declared.forms.OperandForm.{OperandForm}
use Rattle.stl_reader.specs.declared.forms.OperandForm.TheVariants as forms
use Rattle.stl_reader.specs.declared.words.OperandWord.{OperandWord}
use Rattle.stl_reader.specs.declared.addresses.Operand.{Operand}
use Rattle.stl_reader.specs.Forms.{accepts}
use Rattle.stl_reader.specs.Addresses.{part_word}
use Rattle.stl_reader.specs.Operands.{instance_operand, system_operand, row_operand, label_name, area_operand}
use Rattle.stl_reader.specs.Constants.{is_real, form_of, constant_operand, single_operand}
use Rattle.stl_reader.specs.Statements.{kind_operand, operand_at}
use Rattle.reader_laws.specs.Tokens.{IsNumber, IsSign, IsRowWord}
use Rattle.reader_laws.specs.Operands.{operand}
use Rattle.reader_laws.proofs.Again.{word_again, word_is, address_again, sign_again, byte_again, not_real, kind_again}

module _ (text : List ℕ) (temps : Section) (mnemonic : List ℕ) where
  -- an operand that begins with a word, by what stands behind the word
  pub word_read : (w : Token) (rest : List Token) (r : Operand × Token × List Token) → is_word_kind w.kind ≡ true → area_operand text mnemonic w rest ≡ Ok r → operand_at text temps mnemonic (w ∷ rest) ≡ Ok r
  unfolding operand_at
  word_read w rest r kind e =
      let is = word_is w.kind kind in
      rw (not_real text w rest is) (kind_again w.kind text temps mnemonic w rest (w ∷ rest) r is e)

  area_label : (name : List ℕ) (w : Token) (rest : List Token) → label_name (spelling text w) ≡ Some name → accepts mnemonic forms.Label ≡ true → area_operand text mnemonic w rest ≡ Ok (record { area = areas.Target; bit = 0; db = 0; value = 0; name = name }, w, rest)
  unfolding area_operand
  area_label name w rest is takes = rw (takes, is) refl

  pub label_read : (name : List ℕ) (w : Token) (rest : List Token) → is_word_kind w.kind ≡ true → label_name (spelling text w) ≡ Some name → accepts mnemonic forms.Label ≡ true → operand_at text temps mnemonic (w ∷ rest) ≡ Ok (record { area = areas.Target; bit = 0; db = 0; value = 0; name = name }, w, rest)
  label_read name w rest kind is takes = word_read w rest (record { area = areas.Target; bit = 0; db = 0; value = 0; name = name }, w, rest) kind (area_label name w rest is takes)

  instance_form : (form : OperandForm) (row : OperandWord) (w : Token) (rest : List Token) (r : Operand × Token × List Token) → form ≡ forms.FunctionBlock → accepts mnemonic forms.FunctionBlockWithData ≡ true → instance_operand text mnemonic row w rest ≡ Ok r → row_operand form text mnemonic row w rest ≡ Ok r
  instance_form forms.FunctionBlock row w rest r is takes e = rw takes e
  instance_form _ row w rest r is takes e = absurd cc

  system_form : (form : OperandForm) (row : OperandWord) (w : Token) (rest : List Token) (r : Operand × Token × List Token) → form ≡ forms.SystemFunction → system_operand text mnemonic row w rest ≡ Ok r → row_operand form text mnemonic row w rest ≡ Ok r
  system_form forms.SystemFunction row w rest r is e = e
  system_form _ row w rest r is e = absurd cc

  area_row : (row : OperandWord) (w : Token) (rest : List Token) (r : Operand × Token × List Token) → IsRowWord text row w → accepts mnemonic forms.Label ≡ false → row_operand row.form text mnemonic row w rest ≡ Ok r → area_operand text mnemonic w rest ≡ Ok r
  unfolding area_operand
  area_row row w rest r word label e = rw (label, word_again text row w word) e

  db_again : (d : Token) (ts : List Token) → is_word text d (codes "DB") ≡ true → part_word text mnemonic (codes "DB") (d ∷ ts) ≡ Ok (d, ts)
  db_again d ts h = rw h refl

  instance_again : (row : OperandWord) (number db : ℕ) (w n c d m : Token) (rest : List Token) → IsNumber text number n → IsSign text (codes ",") c → is_word text d (codes "DB") ≡ true → IsNumber text db m → is_data_number db ≡ true → instance_operand text mnemonic row w (n ∷ c ∷ d ∷ m ∷ rest) ≡ Ok (operand row.area row.unit db number, m, rest)
  unfolding instance_operand
  instance_again row number db w n c d m rest hn hc hd hm known =
      rw (address_again text mnemonic number n (c ∷ d ∷ m ∷ rest) hn, sign_again text mnemonic (codes ",") c (d ∷ m ∷ rest) hc, db_again d (m ∷ rest) hd, address_again text mnemonic db m rest hm, known) refl

  pub instance_read : (row : OperandWord) (number db : ℕ) (w n c d m : Token) (rest : List Token) → IsRowWord text row w → row.form ≡ forms.FunctionBlock → IsNumber text number n → IsSign text (codes ",") c → is_word text d (codes "DB") ≡ true → IsNumber text db m → is_data_number db ≡ true → accepts mnemonic forms.FunctionBlockWithData ≡ true → accepts mnemonic forms.Label ≡ false → operand_at text temps mnemonic (w ∷ n ∷ c ∷ d ∷ m ∷ rest) ≡ Ok (operand row.area row.unit db number, m, rest)
  instance_read row number db w n c d m rest word form hn hc hd hm known takes label =
      let r : Operand × Token × List Token = (operand row.area row.unit db number, m, rest) in
      word_read w (n ∷ c ∷ d ∷ m ∷ rest) r word.kind (area_row row w (n ∷ c ∷ d ∷ m ∷ rest) r word label
      (instance_form row.form row w (n ∷ c ∷ d ∷ m ∷ rest) r form takes (instance_again row number db w n c d m rest hn hc hd hm known)))

  system_again : (row : OperandWord) (number : ℕ) (w n : Token) (rest : List Token) → IsNumber text number n → (number ≡ 43) ⊎ (number ≡ 46) → accepts mnemonic forms.Function ≡ true → accepts mnemonic forms.SystemFunction ≡ true → system_operand text mnemonic row w (n ∷ rest) ≡ Ok (operand row.area row.unit 0 number, n, rest)
  unfolding system_operand
  system_again row number w n rest h (inl is) calls takes = rw (calls, byte_again text mnemonic row number n rest h, is, takes) refl
  system_again row number w n rest h (inr is) calls takes = rw (calls, byte_again text mnemonic row number n rest h, is, takes) refl

  pub system_read : (row : OperandWord) (number : ℕ) (w n : Token) (rest : List Token) → IsRowWord text row w → row.form ≡ forms.SystemFunction → IsNumber text number n → (number ≡ 43) ⊎ (number ≡ 46) → accepts mnemonic forms.Function ≡ true → accepts mnemonic forms.SystemFunction ≡ true → accepts mnemonic forms.Label ≡ false → operand_at text temps mnemonic (w ∷ n ∷ rest) ≡ Ok (operand row.area row.unit 0 number, n, rest)
  system_read row number w n rest word form h is calls takes label =
      let r : Operand × Token × List Token = (operand row.area row.unit 0 number, n, rest) in
      word_read w (n ∷ rest) r word.kind (area_row row w (n ∷ rest) r word label (system_form row.form row w (n ∷ rest) r form (system_again row number w n rest h is calls takes)))

  single_kind : (kind : TokenKind) (t : Token) (rest tokens : List Token) (r : Operand × Token × List Token) → (kind ≡ kinds.Literal) ⊎ (kind ≡ kinds.Characters) → single_operand (constant_of text t) text mnemonic t rest ≡ Ok r → kind_operand kind text temps mnemonic t rest tokens ≡ Ok r
  single_kind kinds.Literal t rest tokens r is e = e
  single_kind kinds.Characters t rest tokens r is e = e
  single_kind _ t rest tokens r (inl is) e = absurd cc
  single_kind _ t rest tokens r (inr is) e = absurd cc

  no_real : (t : Token) (rest : List Token) → (t.kind ≡ kinds.Literal) ⊎ (t.kind ≡ kinds.Characters) → is_real text (t ∷ rest) ≡ false
  no_real t rest (inl is) = rw is refl
  no_real t rest (inr is) = rw is refl

  pub literal_read : (c : Constant) (t : Token) (rest : List Token) → (t.kind ≡ kinds.Literal) ⊎ (t.kind ≡ kinds.Characters) → constant_of text t ≡ Some c → accepts mnemonic (form_of c.form) ≡ true → operand_at text temps mnemonic (t ∷ rest) ≡ Ok (constant_operand c, t, rest)
  unfolding operand_at
  literal_read c t rest kind is takes =
      rw (no_real t rest kind) (single_kind t.kind t rest (t ∷ rest) (constant_operand c, t, rest) kind (rw (is, takes) refl))
