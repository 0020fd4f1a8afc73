-- Addresses of a data block by its number that are spelled so are read.
use Rattle.std.proofs.Common.{◌≡◌, ◌<◌, ◌≤◌, ℕ, List, [], ◌∷◌, ◌++◌, refl, ap, sym, ◌∙◌, Bool, true, false, cond, ◌&&◌, ◌⊎◌, inl, inr, arith}
use Rattle.std.specs.Prelude.{Ok, Some, None, not, map, drop, length, ◌==◌, ◌^◌, min, codes}
use Rattle.std.specs.List.{find, list_all}
use Rattle.std.specs.Str.{str_to_ascii_lowercase}
use Rattle.std.specs.Char.{is_ascii_digit, to_ascii_lowercase}
use Rattle.std.proofs.lemmas.Bool.{and_parts, and_from, or_left, or_right, leb-true, lt-ltb, ne_eqb, not_from_false, false_from_ne_true}
use Rattle.std.proofs.lemmas.List.{drop-map}
use Rattle.std.proofs.lemmas.Slice.Eq.{bytes_eq-Decides}
use Rattle.instruction_set.specs.declared.operands.OperandArea.TheVariants as areas
use Rattle.s7_base.specs.Operands.{is_data_number}
use Rattle.stl_lex.specs.Bytes.{spells, letters_of, begins}
use Rattle.stl_lex.specs.Numerals.{value_of}
use Rattle.stl_lex.specs.declared.token.Token.{Token}
use Rattle.stl_decl.specs.Layout.{Section}
use Rattle.stl_decl.specs.Steps.{spelling, is_word_kind}
use Rattle.stl_reader.specs.declared.forms.OperandForm.{OperandForm}
use Rattle.stl_reader.specs.declared.forms.OperandForm.TheVariants as forms
use Rattle.stl_reader.specs.declared.words.OperandWord.{OperandWord}
use Rattle.stl_reader.specs.declared.addresses.Operand.{Operand}
use Rattle.stl_reader.specs.Forms.{accepts}
use Rattle.stl_reader.specs.OperandWords.{operand_words}
use Rattle.stl_reader.specs.Words.{operand_word}
use Rattle.stl_reader.specs.Operands.{is_digits, data_number, is_data_word, is_memory_form, data_word, takes_memory, opened_operand, area_operand}
use Rattle.stl_reader.specs.Statements.{operand_at}
use Rattle.reader_laws.specs.Tokens.{IsOneOf, IsSign, IsRowWord}
use Rattle.reader_laws.specs.Operands.{IsAddress, operand, last_of}
use Rattle.reader_laws.proofs.Rows.{each}
use Rattle.reader_laws.proofs.Words.{same_last}
use Rattle.reader_laws.proofs.Again.{no_longer, word_again, sign_again, plain_again}
use Rattle.reader_laws.proofs.Calls.{word_read}

pub find_none : {A : Type 0} (p : A → Bool) (xs : List A) → ((x : A) → IsOneOf x xs → p x ≡ false) → find p xs ≡ None
find_none p [] h = refl
find_none p (y ∷ ys) h = ap (λ b. cond b (Some y) (find p ys)) (h y (inl refl)) ∙ find_none p ys (λ x at. h x (inr at))

digit_lower : (d : ℕ) → is_ascii_digit d ≡ true → is_ascii_digit (to_ascii_lowercase d) ≡ true
digit_lower d h =
    let most : d ≤ 57 = leb-true d 57 (and_parts _ _ h).1 in
    let below : d < 65 = omega (arith, most) in
    rw (lt-ltb d 65 below) h

digits_lower : (ds : List ℕ) → list_all is_ascii_digit ds ≡ true → list_all is_ascii_digit (map to_ascii_lowercase ds) ≡ true
digits_lower [] h = refl
digits_lower (d ∷ ds) h =
    let parts = and_parts (is_ascii_digit d) (list_all is_ascii_digit ds) h in
    and_from (is_ascii_digit (to_ascii_lowercase d)) (list_all is_ascii_digit (map to_ascii_lowercase ds)) (digit_lower d parts.0) (digits_lower ds parts.1)

all_digits : (ds : List ℕ) → is_digits ds ≡ true → is_digits (map to_ascii_lowercase ds) ≡ true
all_digits [] h = absurd cc
all_digits (d ∷ ds) h =
    let lower = map to_ascii_lowercase (d ∷ ds) in
    let parts = and_parts (not (length (d ∷ ds) == 0)) (list_all is_ascii_digit (d ∷ ds)) h in
    and_from (not (length lower == 0)) (list_all is_ascii_digit lower) (not_from_false (length lower == 0) (ne_eqb (length lower) 0 (λ e. cc))) (digits_lower (d ∷ ds) parts.1)

-- what stands behind the second letter
abbrev behind_two : OperandWord → List ℕ
behind_two row = drop 2 (str_to_ascii_lowercase (letters_of row.spelling))

-- no word of the table has digits there
no_digits : list_all (λ row. not (is_digits (behind_two row))) operand_words ≡ true
no_digits = refl

some_if : (b : Bool) (n m : ℕ) → cond b (Some n) None ≡ Some m → b ≡ true
some_if true n m e = refl
some_if false n m e = absurd cc

-- behind the first two letters of a data block's word stand digits
pub digits_of : (word : List ℕ) (number : ℕ) → data_number word ≡ Some number → is_digits (drop 2 (str_to_ascii_lowercase word)) ≡ true
digits_of word number e =
    let holds = some_if (begins (codes "DB") word && is_digits (drop 2 word)) (min (min (value_of 10 (drop 2 word)) (2 ^ 32)) 4294967295) number e in
    let digits = (and_parts (begins (codes "DB") word) (is_digits (drop 2 word)) holds).1 in
    ap is_digits (drop-map to_ascii_lowercase 2 word) ∙ all_digits (drop 2 word) digits

pub no_row : (word : List ℕ) (number : ℕ) → data_number word ≡ Some number → operand_word word ≡ None
unfolding operand_word
no_row word number e =
    let lower = digits_of word number e in
    find_none (λ (row : OperandWord). spells (letters_of row.spelling) word) operand_words (λ row at.
    false_from_ne_true (spells (letters_of row.spelling) word) (λ h.
    let same : str_to_ascii_lowercase (letters_of row.spelling) ≡ str_to_ascii_lowercase word = (bytes_eq-Decides _ _).0 h in
    no_longer (is_digits (behind_two row)) (ap (λ w. is_digits (drop 2 w)) same ∙ lower) (each (λ (r : OperandWord). not (is_digits (behind_two r))) operand_words row no_digits at)))

memory_word : (row : OperandWord) → row.area ≡ areas.Data → (row.form ≡ forms.Bit) ⊎ (row.form ≡ forms.Value) → (is_data_word row ≡ true) × (is_memory_form row.form ≡ true)
memory_word row area (inl form) = (rw (area, form) refl, rw form refl)
memory_word row area (inr form) = (rw (area, form) refl, rw form refl)

pub memory_taken : (mnemonic : List ℕ) (form : OperandForm) → (form ≡ forms.Bit) ⊎ (form ≡ forms.Value) → accepts mnemonic form ≡ true → takes_memory mnemonic ≡ true
memory_taken mnemonic form (inl is) e = or_left (accepts mnemonic forms.Bit) (accepts mnemonic forms.Value) (ap (accepts mnemonic) (sym is) ∙ e)
memory_taken mnemonic form (inr is) e = or_right (accepts mnemonic forms.Bit) (accepts mnemonic forms.Value) (ap (accepts mnemonic) (sym is) ∙ e)

module _ (text : List ℕ) (temps : Section) (mnemonic : List ℕ) where
  data_word_again : (row : OperandWord) (w : Token) (rest : List Token) → IsRowWord text row w → is_data_word row ≡ true → accepts mnemonic row.form ≡ true → data_word text mnemonic (w ∷ rest) ≡ Ok (row, w, rest)
  data_word_again row w rest word is takes = rw (word.kind, word_again text row w word, is, takes) refl

  opened_again : (row : OperandWord) (number bit value : ℕ) (d p w : Token) (ts rest : List Token) → is_data_number number ≡ true → IsSign text (codes ".") p → IsRowWord text row w → is_data_word row ≡ true → accepts mnemonic row.form ≡ true → IsAddress text row bit value ts → opened_operand text mnemonic number d (p ∷ w ∷ (ts ++ rest)) ≡ Ok (operand row.area bit number value, last_of d ts, rest)
  unfolding opened_operand
  opened_again row number bit value d p w ts rest known dot word is takes h =
      rw (sign_again text mnemonic (codes ".") p (w ∷ (ts ++ rest)) dot, data_word_again row w (ts ++ rest) word is takes, plain_again text mnemonic row bit value d ts rest h, known) refl

  area_opened : (number : ℕ) (d : Token) (rest : List Token) (r : Operand × Token × List Token) → data_number (spelling text d) ≡ Some number → accepts mnemonic forms.Label ≡ false → takes_memory mnemonic ≡ true → opened_operand text mnemonic number d rest ≡ Ok r → area_operand text mnemonic d rest ≡ Ok r
  unfolding area_operand
  area_opened number d rest r is label memory e = rw (label, no_row (spelling text d) number is, is, memory) e

  pub opened_read : (row : OperandWord) (number bit value : ℕ) (d p w : Token) (ts rest : List Token) → is_word_kind d.kind ≡ true → data_number (spelling text d) ≡ Some number → is_data_number number ≡ true → IsSign text (codes ".") p → IsRowWord text row w → row.area ≡ areas.Data → (row.form ≡ forms.Bit) ⊎ (row.form ≡ forms.Value) → IsAddress text row bit value ts → accepts mnemonic row.form ≡ true → accepts mnemonic forms.Label ≡ false → operand_at text temps mnemonic (d ∷ p ∷ w ∷ (ts ++ rest)) ≡ Ok (operand row.area bit number value, last_of w ts, rest)
  opened_read row number bit value d p w ts rest kind is known dot word area form h takes label =
      let m = memory_word row area form in
      let opened = opened_again row number bit value d p w ts rest known dot word m.0 takes h in
      let read = word_read text temps mnemonic d (p ∷ w ∷ (ts ++ rest)) (operand row.area bit number value, last_of d ts, rest) kind
      (area_opened number d (p ∷ w ∷ (ts ++ rest)) (operand row.area bit number value, last_of d ts, rest) is label (memory_taken mnemonic row.form form takes) opened) in
      read ∙ ap (λ (l : Token). Ok (operand row.area bit number value, l, rest)) (same_last text row bit value ts d w m.1 h)
