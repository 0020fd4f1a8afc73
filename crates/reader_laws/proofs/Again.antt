-- What is spelled so is read.
use Rattle.std.proofs.Common.{◌≡◌, ℕ, List, [], ◌∷◌, ◌++◌, refl, ap, sym, ◌∙◌, Bool, true, false, cond, ◌||◌, inl, inr}
use Rattle.std.specs.Prelude.{Ok, Some, not, map, nat_le, codes}
use Rattle.std.specs.List.{find, list_any}
use Rattle.std.specs.Str.{bytes_eq, str_to_ascii_lowercase}
use Rattle.std.proofs.lemmas.Bool.{and_parts}
use Rattle.std.proofs.lemmas.Slice.Eq.{bytes_eq-Decides}
use Rattle.stl_lex.specs.Bytes.{letters_of}
use Rattle.stl_lex.specs.declared.piece.TokenKind.{TokenKind}
use Rattle.stl_lex.specs.declared.piece.TokenKind.TheVariants as kinds
use Rattle.stl_lex.specs.declared.token.Token.{Token}
use Rattle.stl_decl.specs.Layout.{Section}
use Rattle.stl_decl.specs.Steps.{spelling, is_number_kind, is_sign_kind, is_word_kind}
use Rattle.stl_reader.specs.declared.forms.OperandForm.{OperandForm}
use Rattle.stl_reader.specs.declared.forms.OperandForm.TheVariants as forms
use Rattle.stl_reader.specs.declared.words.OperandWord.{OperandWord}
use Rattle.stl_reader.specs.declared.addresses.Operand.{Operand}
use Rattle.stl_reader.specs.Forms.{accepts}
use Rattle.stl_reader.specs.OperandWords.{operand_words}
use Rattle.stl_reader.specs.Words.{operand_word}
use Rattle.stl_reader.specs.Addresses.{part_number, part_sign, address, bit_operand, byte_operand}
use Rattle.stl_reader.specs.Operands.{plain_operand, taken_operand, row_operand, area_operand}
use Rattle.stl_reader.specs.Statements.{kind_operand, operand_at}
use Rattle.stl_reader.specs.Constants.{is_real}
use Rattle.reader_laws.specs.Tokens.{IsOneOf, IsNumber, IsSign, IsRowWord}
use Rattle.reader_laws.specs.Operands.{IsAddress, of_bit, of_number, of_word, is_bare, is_numbered, operand, last_of}
use Rattle.reader_laws.specs.Tables.{are_apart}

pub no_longer : (b : Bool) → b ≡ true → not b ≡ true → ⊥
no_longer true h k = cc
no_longer false h k = cc

any_key : {A : Type 0} (key : A → List ℕ) (k : List ℕ) (xs : List A) (x : A) → k ≡ key x → IsOneOf x xs → list_any (bytes_eq k) (map key xs) ≡ true
any_key key k [] x same h = absurd h
any_key key k (y ∷ ys) x same (inl is) =
    let one : bytes_eq k (key y) ≡ true = (bytes_eq-Decides k (key y)).1 (same ∙ ap key (sym is)) in
    ap (λ b. b || list_any (bytes_eq k) (map key ys)) one
any_key key k (y ∷ ys) x same (inr h) = by (bytes_eq k (key y)) (any_key key k ys x same h)
  where
    by : (b : Bool) → list_any (bytes_eq k) (map key ys) ≡ true → (b || list_any (bytes_eq k) (map key ys)) ≡ true
    by true e = refl
    by false e = e

-- the one with this key is found, where no key stands twice
pub find_key : {A : Type 0} (key : A → List ℕ) (w : List ℕ) (xs : List A) (x : A) → are_apart (map key xs) ≡ true → IsOneOf x xs → bytes_eq (key x) w ≡ true → find (λ r. bytes_eq (key r) w) xs ≡ Some x
find_key key w [] x apart h e = absurd h
find_key key w (y ∷ ys) x apart (inl is) e =
    let one : bytes_eq (key y) w ≡ true = ap (λ r. bytes_eq (key r) w) is ∙ e in
    ap (λ b. cond b (Some y) (find (λ r. bytes_eq (key r) w) ys)) one ∙ ap (λ r. Some r) is
find_key key w (y ∷ ys) x apart (inr h) e =
    let parts = and_parts (not (list_any (bytes_eq (key y)) (map key ys))) (are_apart (map key ys)) apart in
    by (bytes_eq (key y) w) refl parts.0 (find_key key w ys x parts.1 h e)
  where
    by : (b : Bool) → bytes_eq (key y) w ≡ b → not (list_any (bytes_eq (key y)) (map key ys)) ≡ true → find (λ r. bytes_eq (key r) w) ys ≡ Some x → cond b (Some y) (find (λ r. bytes_eq (key r) w) ys) ≡ Some x
    by false is alone found = found
    by true is alone found =
        let same : key y ≡ key x = (bytes_eq-Decides (key y) w).0 is ∙ sym ((bytes_eq-Decides (key x) w).0 e) in
        absurd (no_longer (list_any (bytes_eq (key y)) (map key ys)) (any_key key (key y) ys x same h) alone)

abbrev word_key : OperandWord → List ℕ
word_key row = str_to_ascii_lowercase (letters_of row.spelling)

keys_apart : are_apart (map word_key operand_words) ≡ true
keys_apart = refl

pub word_again : (text : List ℕ) (row : OperandWord) (w : Token) → IsRowWord text row w → operand_word (spelling text w) ≡ Some row
unfolding operand_word
word_again text row w h = find_key word_key (str_to_ascii_lowercase (spelling text w)) operand_words row keys_apart h.listed h.letters

pub number_no_sign : (k : TokenKind) → is_number_kind k ≡ true → is_sign_kind k ≡ false
number_no_sign kinds.Number h = refl
number_no_sign _ h = absurd cc

pub word_is : (k : TokenKind) → is_word_kind k ≡ true → k ≡ kinds.Word
word_is kinds.Word h = refl
word_is _ h = absurd cc

module _ (text mnemonic : List ℕ) where
  pub number_again : (n : ℕ) (t : Token) (ts : List Token) → IsNumber text n t → part_number text mnemonic (t ∷ ts) ≡ Ok (n, t, ts)
  number_again n t ts h = rw (h.kind, h.value) refl

  pub address_again : (n : ℕ) (t : Token) (ts : List Token) → IsNumber text n t → address text mnemonic (t ∷ ts) ≡ Ok (n, t, ts)
  address_again n t ts h = rw (number_no_sign t.kind h.kind, h.kind, h.value) refl

  pub sign_again : (sign : List ℕ) (t : Token) (ts : List Token) → IsSign text sign t → part_sign text mnemonic sign (t ∷ ts) ≡ Ok (t, ts)
  sign_again sign t ts h = rw h refl

  bit_again : (row : OperandWord) (first : Token) (byte bit : ℕ) (b p x : Token) (rest : List Token) → IsNumber text byte b → IsSign text (codes ".") p → IsNumber text bit x → nat_le bit 7 ≡ true → bit_operand text mnemonic row first (b ∷ p ∷ x ∷ rest) ≡ Ok (operand row.area bit 0 byte, x, rest)
  unfolding bit_operand
  bit_again row first byte bit b p x rest hb hp hx small =
      rw (address_again byte b (p ∷ x ∷ rest) hb, sign_again (codes ".") p (x ∷ rest) hp, number_again bit x rest hx, small) refl

  pub byte_again : (row : OperandWord) (n : ℕ) (t : Token) (rest : List Token) → IsNumber text n t → byte_operand text mnemonic row (t ∷ rest) ≡ Ok (operand row.area row.unit 0 n, t, rest)
  unfolding byte_operand
  byte_again row n t rest h = rw (address_again n t rest h) refl

  numbered_again : (form : OperandForm) (row : OperandWord) (first : Token) (n : ℕ) (t : Token) (rest : List Token) → is_numbered form ≡ true → IsNumber text n t → plain_operand form text mnemonic row first (t ∷ rest) ≡ Ok (operand row.area row.unit 0 n, t, rest)
  numbered_again forms.Value row first n t rest e h = byte_again row n t rest h
  numbered_again forms.PeripheralIn row first n t rest e h = byte_again row n t rest h
  numbered_again forms.PeripheralOut row first n t rest e h = byte_again row n t rest h
  numbered_again forms.Timer row first n t rest e h = byte_again row n t rest h
  numbered_again forms.Counter row first n t rest e h = byte_again row n t rest h
  numbered_again forms.DataBlock row first n t rest e h = byte_again row n t rest h
  numbered_again forms.InstanceBlock row first n t rest e h = byte_again row n t rest h
  numbered_again forms.Function row first n t rest e h = byte_again row n t rest h
  numbered_again forms.FunctionBlock row first n t rest e h = byte_again row n t rest h
  numbered_again _ row first n t rest e h = absurd cc

  bare_again : (form : OperandForm) (row : OperandWord) (first : Token) (rest : List Token) → is_bare form ≡ true → plain_operand form text mnemonic row first rest ≡ Ok (operand row.area row.unit 0 row.value, first, rest)
  bare_again forms.Status row first rest e = refl
  bare_again forms.StatusWord row first rest e = refl
  bare_again forms.DataRegister row first rest e = refl
  bare_again _ row first rest e = absurd cc

  form_again : (form : OperandForm) (row : OperandWord) (first : Token) (tokens : List Token) (r : Operand × Token × List Token) → form ≡ forms.Bit → bit_operand text mnemonic row first tokens ≡ Ok r → plain_operand form text mnemonic row first tokens ≡ Ok r
  form_again forms.Bit row first tokens r is e = e
  form_again _ row first tokens r is e = absurd cc

  pub plain_again : (row : OperandWord) (bit value : ℕ) (first : Token) (ts rest : List Token) → IsAddress text row bit value ts → plain_operand row.form text mnemonic row first (ts ++ rest) ≡ Ok (operand row.area bit 0 value, last_of first ts, rest)
  plain_again row bit value first ts rest (of_bit byte n b p x form hb hp hx small) = form_again row.form row first (b ∷ p ∷ x ∷ rest) (operand row.area bit 0 value, x, rest) form (bit_again row first byte n b p x rest hb hp hx small)
  plain_again row bit value first ts rest (of_number n t form h) = numbered_again row.form row first n t rest form h
  plain_again row bit value first ts rest (of_word form) = bare_again row.form row first rest form

  taken_again : (row : OperandWord) (bit value : ℕ) (first : Token) (ts rest : List Token) → IsAddress text row bit value ts → accepts mnemonic row.form ≡ true → taken_operand text mnemonic row first (ts ++ rest) ≡ Ok (operand row.area bit 0 value, last_of first ts, rest)
  taken_again row bit value first ts rest h takes = rw takes (plain_again row bit value first ts rest h)

  no_system : (row : OperandWord) (bit value : ℕ) (ts : List Token) → row.form ≡ forms.SystemFunction → IsAddress text row bit value ts → ⊥
  no_system row bit value ts is (of_bit byte n b p x form hb hp hx small) = let wrong : forms.SystemFunction ≡ forms.Bit = sym is ∙ form in cc
  no_system row bit value ts is (of_number n t form h) = let wrong : true ≡ false = sym form ∙ ap is_numbered is in cc
  no_system row bit value ts is (of_word form) = let wrong : true ≡ false = sym form ∙ ap is_bare is in cc

  row_again : (form : OperandForm) (row : OperandWord) (bit value : ℕ) (first : Token) (ts rest : List Token) → row.form ≡ form → IsAddress text row bit value ts → accepts mnemonic row.form ≡ true → (row.form ≡ forms.FunctionBlock → accepts mnemonic forms.FunctionBlockWithData ≡ false) → row_operand form text mnemonic row first (ts ++ rest) ≡ Ok (operand row.area bit 0 value, last_of first ts, rest)
  row_again forms.SystemFunction row bit value first ts rest is h takes alone = absurd (no_system row bit value ts is h)
  row_again forms.FunctionBlock row bit value first ts rest is h takes alone = rw (alone is) (taken_again row bit value first ts rest h takes)
  row_again _ row bit value first ts rest is h takes alone = taken_again row bit value first ts rest h takes

  area_again : (row : OperandWord) (bit value : ℕ) (w : Token) (ts rest : List Token) → IsRowWord text row w → IsAddress text row bit value ts → accepts mnemonic row.form ≡ true → accepts mnemonic forms.Label ≡ false → (row.form ≡ forms.FunctionBlock → accepts mnemonic forms.FunctionBlockWithData ≡ false) → area_operand text mnemonic w (ts ++ rest) ≡ Ok (operand row.area bit 0 value, last_of w ts, rest)
  unfolding area_operand
  area_again row bit value w ts rest word h takes label alone =
      rw (label, word_again text row w word) (row_again row.form row bit value w ts rest refl h takes alone)

pub not_real : (text : List ℕ) (t : Token) (ts : List Token) → t.kind ≡ kinds.Word → is_real text (t ∷ ts) ≡ false
not_real text t ts kind = rw kind refl

pub kind_again : (kind : TokenKind) (text : List ℕ) (temps : Section) (mnemonic : List ℕ) (w : Token) (rest tokens : List Token) (r : Operand × Token × List Token) → kind ≡ kinds.Word → area_operand text mnemonic w rest ≡ Ok r → kind_operand kind text temps mnemonic w rest tokens ≡ Ok r
kind_again kinds.Word text temps mnemonic w rest tokens r is e = e
kind_again _ text temps mnemonic w rest tokens r is e = absurd cc

pub address_read : (text : List ℕ) (temps : Section) (mnemonic : List ℕ) (row : OperandWord) (bit value : ℕ) (w : Token) (ts rest : List Token) → IsRowWord text row w → IsAddress text row bit value ts → accepts mnemonic row.form ≡ true → accepts mnemonic forms.Label ≡ false → (row.form ≡ forms.FunctionBlock → accepts mnemonic forms.FunctionBlockWithData ≡ false) → operand_at text temps mnemonic (w ∷ (ts ++ rest)) ≡ Ok (operand row.area bit 0 value, last_of w ts, rest)
unfolding operand_at
address_read text temps mnemonic row bit value w ts rest word h takes label alone =
    let kind = word_is w.kind word.kind in
    rw (not_real text w (ts ++ rest) kind) (kind_again w.kind text temps mnemonic w (ts ++ rest) (w ∷ (ts ++ rest)) (operand row.area bit 0 value, last_of w ts, rest) kind (area_again text mnemonic row bit value w ts rest word h takes label alone))
