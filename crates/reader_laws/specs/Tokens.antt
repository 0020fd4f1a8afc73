-- What one token is in the language: a number, a word of a table, a data block's name.
use Rattle.std.specs.Prelude.{◌≡◌, ℕ, List, [], ◌∷◌, ◌++◌, min, true, ◌⊎◌}
use Rattle.stl_lex.specs.Bytes.{spells, letters_of}
use Rattle.stl_lex.specs.declared.token.Token.{Token}
use Rattle.stl_decl.specs.Steps.{spelling, is_number_kind, is_word_kind, is_sign, number_of}
use Rattle.stl_reader.specs.declared.words.OperandWord.{OperandWord}
use Rattle.stl_reader.specs.OperandWords.{operand_words}

-- x is one of these
abbrev pub IsOneOf : {A : Type 0} → A → List A → Type 0
IsOneOf x [] = ⊥
IsOneOf x (y ∷ ys) = (y ≡ x) ⊎ IsOneOf x ys

-- the token is the number n; no number is above 4,294,967,295
pub record IsNumber (text : List ℕ) (n : ℕ) (t : Token) : Type 0 where
  pub kind : is_number_kind t.kind ≡ true
  pub value : min (number_of text t) 4294967295 ≡ n

-- the token is this sign
abbrev pub IsSign : List ℕ → List ℕ → Token → Type 0
IsSign text sign t = is_sign text t sign ≡ true

-- the token is the word of the row, in large or small letters
pub record IsRowWord (text : List ℕ) (row : OperandWord) (t : Token) : Type 0 where
  pub kind : is_word_kind t.kind ≡ true
  pub listed : IsOneOf row operand_words
  pub letters : spells (letters_of row.spelling) (spelling text t) ≡ true

-- what was read is spelled by the tokens that it took, and the others are left
pub record IsRead {A : Type 0} (Spells : A → List Token → Type 0) (tokens : List Token) (x : A × List Token) : Type 0 where
  pub front : List Token
  pub cut : tokens ≡ front ++ x.1
  pub spelled : Spells x.0 front
