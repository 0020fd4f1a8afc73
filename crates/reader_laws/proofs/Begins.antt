-- What is spelled as an operand begins as one: a mnemonic that may stand alone is read with it.
use Rattle.std.proofs.Common.{◌≡◌, ℕ, List, ◌∷◌, ◌++◌, refl, ap, sym, ◌∙◌, Bool, true, false, ◌&&◌, ◌||◌, ◌==◌, ◌⊎◌, inl, inr}
use Rattle.std.specs.Prelude.{Some, None, not, is_some, drop, codes}
use Rattle.std.specs.List.{list_all}
use Rattle.std.specs.Str.{bytes_eq, str_to_ascii_lowercase}
use Rattle.std.proofs.lemmas.Bool.{and_parts, and_from, or_left, or_right, false_from_ne_true, not_from_false}
use Rattle.std.proofs.lemmas.Slice.Eq.{bytes_eq-Decides}
use Rattle.instruction_set.specs.declared.operands.OperandKind.{OperandKind}
use Rattle.instruction_set.specs.declared.operands.OperandKind.TheVariants as operand_kinds
use Rattle.instruction_set.specs.declared.table.InstructionRow.{InstructionRow}
use Rattle.instruction_set.specs.InstructionSet.{instruction_set}
use Rattle.stl_lex.specs.Bytes.{spells, letters_of}
use Rattle.stl_lex.specs.declared.piece.TokenKind.{TokenKind}
use Rattle.stl_lex.specs.declared.piece.TokenKind.TheVariants as kinds
use Rattle.stl_lex.specs.declared.token.Token.{Token}
use Rattle.stl_decl.specs.Layout.{Section}
use Rattle.stl_decl.specs.Steps.{spelling, is_sign, is_word_kind, is_sign_kind}
use Rattle.stl_reader.specs.declared.forms.OperandForm.{OperandForm}
use Rattle.stl_reader.specs.declared.forms.OperandForm.TheVariants as forms
use Rattle.stl_reader.specs.declared.words.OperandWord.{OperandWord}
use Rattle.stl_reader.specs.declared.addresses.Operand.{Operand}
use Rattle.stl_reader.specs.Forms.{takes, takes_none, takes_some, accepts, may_be_alone, takes_operand}
use Rattle.stl_reader.specs.OperandWords.{operand_words}
use Rattle.stl_reader.specs.Words.{operand_word, status_sign}
use Rattle.stl_reader.specs.Operands.{is_digits, data_number}
use Rattle.stl_reader.specs.Constants.{is_plus_or_minus, is_figure_next, is_zero_next}
use Rattle.stl_reader.specs.Statements.{is_number_next, is_bit_next, begins_word, begins_sign, begins_by, begins_operand, wants_operand}
use Rattle.reader_laws.specs.Tokens.{IsOneOf, IsSign, IsRowWord}
use Rattle.reader_laws.specs.Operands.{IsAddress, of_bit, of_number, of_word, is_bare, is_numbered, IsInteger, unsigned, positive, negative, IsOperand, by_address, by_data_block, by_instance, by_system, by_sign, by_label, by_number, by_literal, by_name, by_element}
use Rattle.reader_laws.proofs.Rows.{each}
use Rattle.reader_laws.proofs.Forms.{passes_any, passing, row_taking, kinds_parted, parted, right_of, neither}
use Rattle.reader_laws.proofs.Again.{word_again, word_is}
use Rattle.reader_laws.proofs.Compared.{sign_is, status_again}
use Rattle.reader_laws.proofs.Figures.{letters, other_sign, number_is}
use Rattle.reader_laws.proofs.Opened.{digits_of}

-- words that are mnemonics, or may be labels, too
abbrev is_counted : OperandForm → Bool
is_counted forms.Timer = true
is_counted forms.Counter = true
is_counted _ = false

abbrev is_bit : OperandForm → Bool
is_bit forms.Bit = true
is_bit _ = false

abbrev is_short : List ℕ → Bool
is_short word = spells (codes "T") word || spells (codes "C") word

short_rows : list_all (λ row. not (is_short (letters_of row.spelling)) || is_counted row.form) operand_words ≡ true
short_rows = refl

local_rows : list_all (λ row. not (spells (codes "L") (letters_of row.spelling)) || is_bit row.form) operand_words ≡ true
local_rows = refl

by_sign_kind : (text : List ℕ) (s : Token) (rest : List Token) (b : Bool) (kind : TokenKind) → kind ≡ kinds.Sign → begins_sign text s rest ≡ b → begins_by kind text s rest ≡ b
by_sign_kind text s rest b kinds.Sign is e = e
by_sign_kind text s rest b _ is e = absurd cc

module _ (text : List ℕ) where
  row_begins : (row : OperandWord) (w : Token) (rest : List Token) → IsRowWord text row w → (is_counted row.form ≡ true → is_number_next rest ≡ true) → (is_bit row.form ≡ true → is_bit_next text rest ≡ true) → begins_operand text (w ∷ rest) ≡ true
  unfolding begins_word
  row_begins row w rest word number bit = rw (word_is w.kind word.kind) (by (is_short (spelling text w)) refl (spells (codes "L") (spelling text w)) refl)
    where
      same : str_to_ascii_lowercase (letters_of row.spelling) ≡ str_to_ascii_lowercase (spelling text w)
      same = (bytes_eq-Decides _ _).0 word.letters

      counted : is_short (spelling text w) ≡ true → is_counted row.form ≡ true
      counted h = right_of (is_short (letters_of row.spelling)) (is_counted row.form) (ap (λ l. bytes_eq (str_to_ascii_lowercase (codes "T")) l || bytes_eq (str_to_ascii_lowercase (codes "C")) l) same ∙ h) (each (λ (r : OperandWord). not (is_short (letters_of r.spelling)) || is_counted r.form) operand_words row short_rows word.listed)

      local : spells (codes "L") (spelling text w) ≡ true → is_bit row.form ≡ true
      local h = right_of (spells (codes "L") (letters_of row.spelling)) (is_bit row.form) (ap (bytes_eq (str_to_ascii_lowercase (codes "L"))) same ∙ h) (each (λ (r : OperandWord). not (spells (codes "L") (letters_of r.spelling)) || is_bit r.form) operand_words row local_rows word.listed)

      by : (a : Bool) → is_short (spelling text w) ≡ a → (b : Bool) → spells (codes "L") (spelling text w) ≡ b → begins_word text (spelling text w) rest ≡ true
      by true is b h = rw is (number (counted is))
      by false is true h = rw (is, h) (bit (local h))
      by false is false h = rw (is, h, word_again text row w word) refl

  address_number : (row : OperandWord) (bit value : ℕ) (ts rest : List Token) → IsAddress text row bit value ts → is_counted row.form ≡ true → is_number_next (ts ++ rest) ≡ true
  address_number row bit value ts rest (of_bit byte n b p x form hb hp hx small) h = let wrong : true ≡ false = sym h ∙ ap is_counted form in absurd cc
  address_number row bit value ts rest (of_number n t form h) k = h.kind
  address_number row bit value ts rest (of_word form) h = absurd (no_bare row.form h form)
    where
      no_bare : (f : OperandForm) → is_counted f ≡ true → is_bare f ≡ true → ⊥
      no_bare forms.Timer h k = cc
      no_bare forms.Counter h k = cc
      no_bare _ h k = cc

  address_bit : (row : OperandWord) (bit value : ℕ) (ts rest : List Token) → IsAddress text row bit value ts → is_bit row.form ≡ true → is_bit_next text (ts ++ rest) ≡ true
  address_bit row bit value ts rest (of_bit byte n b p x form hb hp hx small) h = rw (hb.kind, hp) refl
  address_bit row bit value ts rest (of_number n t form h) k = absurd (no_number row.form k form)
    where
      no_number : (f : OperandForm) → is_bit f ≡ true → is_numbered f ≡ true → ⊥
      no_number forms.Bit h k = cc
      no_number _ h k = cc
  address_bit row bit value ts rest (of_word form) k = absurd (no_bare row.form k form)
    where
      no_bare : (f : OperandForm) → is_bit f ≡ true → is_bare f ≡ true → ⊥
      no_bare forms.Bit h k = cc
      no_bare _ h k = cc

  data_begins : (number : ℕ) (d : Token) (rest : List Token) → is_word_kind d.kind ≡ true → data_number (spelling text d) ≡ Some number → begins_operand text (d ∷ rest) ≡ true
  unfolding begins_word
  data_begins number d rest kind is =
      let digits = digits_of (spelling text d) number is in
      let no_t : spells (codes "T") (spelling text d) ≡ false = false_from_ne_true _ (λ h.
      let same : str_to_ascii_lowercase (codes "T") ≡ str_to_ascii_lowercase (spelling text d) = (bytes_eq-Decides _ _).0 h in
      let wrong : false ≡ true = ap (λ w. is_digits (drop 2 w)) same ∙ digits in cc) in
      let no_c : spells (codes "C") (spelling text d) ≡ false = false_from_ne_true _ (λ h.
      let same : str_to_ascii_lowercase (codes "C") ≡ str_to_ascii_lowercase (spelling text d) = (bytes_eq-Decides _ _).0 h in
      let wrong : false ≡ true = ap (λ w. is_digits (drop 2 w)) same ∙ digits in cc) in
      let no_l : spells (codes "L") (spelling text d) ≡ false = false_from_ne_true _ (λ h.
      let same : str_to_ascii_lowercase (codes "L") ≡ str_to_ascii_lowercase (spelling text d) = (bytes_eq-Decides _ _).0 h in
      let wrong : false ≡ true = ap (λ w. is_digits (drop 2 w)) same ∙ digits in cc) in
      rw (word_is d.kind kind, no_t, no_c, no_l) (or_right (is_some (operand_word (spelling text d))) (is_some (data_number (spelling text d))) (ap is_some is))

  sign_begins : (s : Token) (rest : List Token) → s.kind ≡ kinds.Sign → begins_sign text s rest ≡ true → begins_operand text (s ∷ rest) ≡ true
  sign_begins s rest kind e = by_sign_kind text s rest true s.kind kind e

  number_begins : (minus : Bool) (n : ℕ) (front rest : List Token) → IsInteger text minus n front → begins_operand text (front ++ rest) ≡ true
  unfolding begins_sign
  number_begins minus n front rest (unsigned t h) = rw (number_is t.kind h) refl
  number_begins minus n front rest (positive s t sign h) =
      let kind = sign_is s.kind (and_parts (is_sign_kind s.kind) (bytes_eq (spelling text s) (codes "+")) sign).0 in
      sign_begins s (t ∷ rest) kind (rw (other_sign text (codes "+") (codes "\"") s sign refl, sign, h) refl)
  number_begins minus n front rest (negative s t sign h) =
      let kind = sign_is s.kind (and_parts (is_sign_kind s.kind) (bytes_eq (spelling text s) (codes "-")) sign).0 in
      sign_begins s (t ∷ rest) kind (rw (other_sign text (codes "-") (codes "\"") s sign refl, other_sign text (codes "-") (codes "+") s sign refl, sign, h) refl)

  -- all but labels
  begins : (temps : Section) (form : OperandForm) (o : Operand) (front rest : List Token) → IsOperand text temps form o front → (form ≡ forms.Label → ⊥) → begins_operand text (front ++ rest) ≡ true
  unfolding begins_sign
  begins temps form o front rest (by_address row bit value w ts word h) other = row_begins row w (ts ++ rest) word (address_number row bit value ts rest h) (address_bit row bit value ts rest h)
  begins temps form o front rest (by_data_block row number bit value d p w ts kind is known dot word area memory h) other = data_begins number d (p ∷ w ∷ (ts ++ rest)) kind is
  begins temps form o front rest (by_instance row number db w n c d m word block hn hc hd hm known) other =
      row_begins row w (n ∷ c ∷ d ∷ m ∷ rest) word (λ k. hn.kind) (λ k. let wrong : true ≡ false = sym k ∙ ap is_bit block in absurd cc)
  begins temps form o front rest (by_system row number w n word system h is) other =
      row_begins row w (n ∷ rest) word (λ k. h.kind) (λ k. let wrong : true ≡ false = sym k ∙ ap is_bit system in absurd cc)
  begins temps form o front rest (by_sign row s z listed sign kind zero) other =
      let is = sign_is s.kind (and_parts (is_sign_kind s.kind) (bytes_eq (spelling text s) (letters_of row.sign)) sign).0 in
      let figure : bytes_eq (spelling text z) (codes "0") ≡ true = (bytes_eq-Decides (spelling text z) (codes "0")).1 zero in
      let found = status_again (spelling text s) row listed (letters text (letters_of row.sign) s sign) in
      let last : (is_some (status_sign (spelling text s)) && is_zero_next text (z ∷ rest)) ≡ true = rw (found, kind, figure) refl in
      sign_begins s (z ∷ rest) is (or_right (is_sign text s (codes "\"") || (is_plus_or_minus text s && is_figure_next (z ∷ rest))) (is_some (status_sign (spelling text s)) && is_zero_next text (z ∷ rest)) last)
  begins temps form o front rest (by_label name w kind is) other = absurd (other refl)
  begins temps form o front rest (by_number minus n ts h range) other = number_begins minus n ts rest h
  begins temps form o front rest (by_literal c t (inl kind) is) other = rw kind refl
  begins temps form o front rest (by_literal c t (inr kind) is) other = rw kind refl
  begins temps form o front rest (by_name place f p t name single h) other = rw name.kind refl
  begins temps form o front rest (by_element place minus n k f p t opening closing ts name opens integer element closes h) other = rw name.kind refl

some_taken : (k : OperandKind) (form : OperandForm) → takes k form ≡ true → takes_some k ≡ true
some_taken operand_kinds.Nothing form e = absurd cc
some_taken _ form e = refl

pub operand_stands : (mnemonic : List ℕ) (form : OperandForm) → accepts mnemonic form ≡ true → takes_operand mnemonic ≡ true
unfolding takes_operand
operand_stands mnemonic form e =
    let a = row_taking mnemonic form e in
    passes_any (λ (row : InstructionRow). bytes_eq row.mnemonic mnemonic && takes_some row.operand) instruction_set a.row a.listed
    (rw ((bytes_eq-Decides a.row.mnemonic mnemonic).1 a.same) (some_taken a.row.operand form a.takes))

-- a jump doesn't stand alone
jump_only : (k l : OperandKind) → takes k forms.Label ≡ true → parted k l ≡ true → takes_none l ≡ true → ⊥
unfolding parted
jump_only operand_kinds.Target operand_kinds.Target h p e = cc
jump_only operand_kinds.Target _ h p e = cc
jump_only (operand_kinds.AtMost most) l h p e = neither (most == 65535) h
jump_only _ l h p e = cc

no_alone : (mnemonic : List ℕ) → accepts mnemonic forms.Label ≡ true → may_be_alone mnemonic ≡ false
unfolding may_be_alone
no_alone mnemonic e = false_from_ne_true (may_be_alone mnemonic) (λ h.
    let a = row_taking mnemonic forms.Label e in
    let b = passing (λ (row : InstructionRow). bytes_eq row.mnemonic mnemonic && takes_none row.operand) instruction_set h in
    let parts = and_parts (bytes_eq b.one.mnemonic mnemonic) (takes_none b.one.operand) b.is in
    let same : a.row.mnemonic ≡ b.one.mnemonic = a.same ∙ sym ((bytes_eq-Decides b.one.mnemonic mnemonic).0 parts.0) in
    jump_only a.row.operand b.one.operand a.takes (kinds_parted a.row b.one a.listed b.listed same) parts.1)

label_or_not : (form : OperandForm) → (form ≡ forms.Label) ⊎ (form ≡ forms.Label → ⊥)
label_or_not forms.Label = inl refl
label_or_not _ = inr (λ e. cc)

-- an operand that is spelled behind a mnemonic that takes its form is read
pub wants : (text : List ℕ) (temps : Section) (mnemonic : List ℕ) (form : OperandForm) (o : Operand) (front rest : List Token) → IsOperand text temps form o front → accepts mnemonic form ≡ true → wants_operand text mnemonic (front ++ rest) ≡ true
wants text temps mnemonic form o front rest h takes =
    and_from (takes_operand mnemonic) (not (may_be_alone mnemonic) || begins_operand text (front ++ rest)) (operand_stands mnemonic form takes) (by (label_or_not form))
  where
    by : (form ≡ forms.Label) ⊎ (form ≡ forms.Label → ⊥) → (not (may_be_alone mnemonic) || begins_operand text (front ++ rest)) ≡ true
    by (inl is) = or_left (not (may_be_alone mnemonic)) (begins_operand text (front ++ rest)) (not_from_false (may_be_alone mnemonic) (no_alone mnemonic (ap (accepts mnemonic) (sym is) ∙ takes)))
    by (inr other) = or_right (not (may_be_alone mnemonic)) (begins_operand text (front ++ rest)) (begins text temps form o front rest h other)

-- a row of no operand has a mnemonic that may stand alone
pub row_alone : (row : InstructionRow) → IsOneOf row instruction_set → takes_none row.operand ≡ true → may_be_alone row.mnemonic ≡ true
unfolding may_be_alone
row_alone row listed e =
    passes_any (λ (r : InstructionRow). bytes_eq r.mnemonic row.mnemonic && takes_none r.operand) instruction_set row listed
    (rw ((bytes_eq-Decides row.mnemonic row.mnemonic).1 refl) e)

no_semicolon : status_sign (codes ";") ≡ None
unfolding status_sign
no_semicolon = refl

-- `;` begins no operand
pub semicolon_begins : (text : List ℕ) (s : Token) (rest : List Token) → IsSign text (codes ";") s → begins_operand text (s ∷ rest) ≡ false
unfolding begins_sign
semicolon_begins text s rest sign =
    let kind = sign_is s.kind (and_parts (is_sign_kind s.kind) (bytes_eq (spelling text s) (codes ";")) sign).0 in
    let none : status_sign (spelling text s) ≡ None = ap status_sign (letters text (codes ";") s sign) ∙ no_semicolon in
    by_sign_kind text s rest false s.kind kind (rw (other_sign text (codes ";") (codes "\"") s sign refl, other_sign text (codes ";") (codes "+") s sign refl, other_sign text (codes ";") (codes "-") s sign refl, none) refl)
