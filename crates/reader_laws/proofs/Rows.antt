-- What holds of every row of the tables of words and signs.
use Rattle.std.proofs.Common.{◌≡◌, ℕ, List, [], ◌∷◌, refl, ap, sym, ◌∙◌, Bool, true, false, cond, ◌⊎◌, inl, inr}
use Rattle.std.specs.Prelude.{Some}
use Rattle.std.specs.List.{find, list_all}
use Rattle.std.specs.Str.{bytes_eq}
use Rattle.std.proofs.lemmas.Bool.{and_parts}
use Rattle.stl_lex.specs.Bytes.{spells, letters_of}
use Rattle.stl_reader.specs.declared.forms.OperandForm.{OperandForm}
use Rattle.stl_reader.specs.declared.forms.OperandForm.TheVariants as forms
use Rattle.stl_reader.specs.declared.words.OperandWord.{OperandWord}
use Rattle.stl_reader.specs.declared.words.StatusSign.{StatusSign}
use Rattle.stl_reader.specs.OperandWords.{operand_words, status_signs}
use Rattle.stl_reader.specs.Words.{operand_word, status_sign}
use Rattle.reader_laws.specs.Tokens.{IsOneOf}

-- the one that was found is there, and passes
pub found : {A : Type 0} (p : A → Bool) (xs : List A) (x : A) → find p xs ≡ Some x → IsOneOf x xs × (p x ≡ true)
found p [] x e = absurd cc
found p (y ∷ ys) x e = by (λ h. found p ys x h) (p y) refl e
  where
    by : (find p ys ≡ Some x → IsOneOf x ys × (p x ≡ true)) → (b : Bool) → p y ≡ b → cond b (Some y) (find p ys) ≡ Some x → ((y ≡ x) ⊎ IsOneOf x ys) × (p x ≡ true)
    by later true is e = let same : y ≡ x = cc in (inl same, ap p (sym same) ∙ is)
    by later false is e = let h = later e in (inr h.0, h.1)

-- what holds of all holds of each
pub each : {A : Type 0} (p : A → Bool) (xs : List A) (x : A) → list_all p xs ≡ true → IsOneOf x xs → p x ≡ true
each p [] x all h = absurd h
each p (y ∷ ys) x all (inl same) = ap p (sym same) ∙ (and_parts (p y) (list_all p ys) all).0
each p (y ∷ ys) x all (inr h) = each p ys x (and_parts (p y) (list_all p ys) all).1 h

-- the forms of operands that begin with a word of the table
abbrev pub is_plain : OperandForm → Bool
is_plain forms.Number = false
is_plain forms.SignedNumber = false
is_plain forms.LongInteger = false
is_plain forms.WordPattern = false
is_plain forms.DoubleWordPattern = false
is_plain forms.OtherLiteral = false
is_plain forms.Label = false
is_plain forms.FunctionBlockWithData = false
is_plain _ = true

plain_rows : list_all (λ row. is_plain row.form) operand_words ≡ true
plain_rows = refl

pub row_is_plain : (row : OperandWord) → IsOneOf row operand_words → is_plain row.form ≡ true
row_is_plain row h = each (λ r. is_plain r.form) operand_words row plain_rows h

pub word_found : (word : List ℕ) (row : OperandWord) → operand_word word ≡ Some row → IsOneOf row operand_words × (spells (letters_of row.spelling) word ≡ true)
unfolding operand_word
word_found word row e = found (λ row. spells (letters_of row.spelling) word) operand_words row e

pub sign_found : (sign : List ℕ) (row : StatusSign) → status_sign sign ≡ Some row → IsOneOf row status_signs × (bytes_eq (letters_of row.sign) sign ≡ true)
unfolding status_sign
sign_found sign row e = found (λ row. bytes_eq (letters_of row.sign) sign) status_signs row e
