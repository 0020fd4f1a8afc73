-- What is spelled as an operand is read: each kind of operand, and all of them as one law.
use Rattle.std.specs.Prelude.{◌≡◌, ℕ, List, ◌∷◌, ◌++◌, ◌⊎◌, ◌||◌, [], Bool, true, false, Some, Ok, codes}
use Rattle.instruction_set.specs.declared.operands.OperandArea.TheVariants as areas
use Rattle.s7_base.specs.Operands.{is_data_number}
use Rattle.stl_lex.specs.declared.piece.TokenKind.TheVariants as kinds
use Rattle.stl_lex.specs.Bytes.{letters_of}
use Rattle.stl_lex.specs.declared.token.Token.{Token}
use Rattle.stl_decl.specs.declared.constants.Constant.{Constant}
use Rattle.stl_decl.specs.Constants.{constant_of}
use Rattle.stl_decl.specs.Steps.{spelling, is_number_kind, is_word_kind, is_word, is_sign}
use Rattle.stl_decl.specs.Layout.{Section}
use Rattle.stl_reader.specs.declared.forms.OperandForm.{OperandForm}
use Rattle.stl_reader.specs.declared.forms.OperandForm.TheVariants as forms
use Rattle.stl_reader.specs.declared.words.OperandWord.{OperandWord}
use Rattle.stl_reader.specs.declared.words.StatusSign.{StatusSign}
use Rattle.stl_reader.specs.declared.addresses.Operand.{Operand}
use Rattle.stl_reader.specs.OperandWords.{status_signs}
use Rattle.stl_reader.specs.Forms.{accepts}
use Rattle.stl_reader.specs.Words.{operand_word}
use Rattle.stl_reader.specs.Operands.{data_number, label_name}
use Rattle.stl_reader.specs.Constants.{form_of, constant_operand}
use Rattle.stl_reader.specs.Statements.{operand_at}
use Rattle.reader_laws.specs.Tokens.{IsOneOf, IsNumber, IsSign, IsRowWord}
use Rattle.reader_laws.specs.Operands.{IsAddress, operand, IsOperand, last_of}

-- a word of the table, in large or small letters, is found as its row and as no other
abbrev pub WordsSpelledAreFound : Type 0
WordsSpelledAreFound = (text : List ℕ) (row : OperandWord) (w : Token) → IsRowWord text row w → operand_word (spelling text w) ≡ Some row

-- A word and its address are read as the operand that they spell and as no other, behind each mnemonic that takes the
-- form, and what follows is left, whatever it is.
abbrev pub AddressesSpelledAreRead : Type 0
AddressesSpelledAreRead =
    (text : List ℕ) (temps : Section) (mnemonic : List ℕ) (row : OperandWord) (bit value : ℕ) (w : Token) (ts rest : List Token)
    → IsRowWord text row w → IsAddress text row bit value ts → accepts mnemonic row.form ≡ true
    → operand_at text temps mnemonic (w ∷ (ts ++ rest)) ≡ Ok (operand row.area bit 0 value, last_of w ts, rest)

-- DBn, a point and an address of a data block are read as the address in that data block, whatever follows
abbrev pub DataAddressesSpelledAreRead : Type 0
DataAddressesSpelledAreRead =
    (text : List ℕ) (temps : Section) (mnemonic : List ℕ) (row : OperandWord) (number bit value : ℕ) (d p w : Token) (ts rest : List Token)
    → is_word_kind d.kind ≡ true → data_number (spelling text d) ≡ Some number → is_data_number number ≡ true → IsSign text (codes ".") p
    → IsRowWord text row w → row.area ≡ areas.Data → (row.form ≡ forms.Bit) ⊎ (row.form ≡ forms.Value) → IsAddress text row bit value ts
    → accepts mnemonic row.form ≡ true
    → operand_at text temps mnemonic (d ∷ p ∷ w ∷ (ts ++ rest)) ≡ Ok (operand row.area bit number value, last_of w ts, rest)

-- a literal or characters are read as the constant that they are, whatever follows
abbrev pub LiteralsSpelledAreRead : Type 0
LiteralsSpelledAreRead =
    (text : List ℕ) (temps : Section) (mnemonic : List ℕ) (c : Constant) (t : Token) (rest : List Token)
    → (t.kind ≡ kinds.Literal) ⊎ (t.kind ≡ kinds.Characters) → constant_of text t ≡ Some c → accepts mnemonic (form_of c.form) ≡ true
    → operand_at text temps mnemonic (t ∷ rest) ≡ Ok (constant_operand c, t, rest)

-- a word of at most four letters is read as a label behind each mnemonic that takes one, whatever follows
abbrev pub LabelsSpelledAreRead : Type 0
LabelsSpelledAreRead =
    (text : List ℕ) (temps : Section) (mnemonic name : List ℕ) (w : Token) (rest : List Token)
    → is_word_kind w.kind ≡ true → label_name (spelling text w) ≡ Some name → accepts mnemonic forms.Label ≡ true
    → operand_at text temps mnemonic (w ∷ rest) ≡ Ok (record { area = areas.Target; bit = 0; db = 0; value = 0; name = name }, w, rest)

-- FB n, DB m is read as the call of the block with its data, whatever follows
abbrev pub InstancesSpelledAreRead : Type 0
InstancesSpelledAreRead =
    (text : List ℕ) (temps : Section) (mnemonic : List ℕ) (row : OperandWord) (number db : ℕ) (w n c d m : Token) (rest : List Token)
    → IsRowWord text row w → row.form ≡ forms.FunctionBlock → IsNumber text number n → IsSign text (codes ",") c → is_word text d (codes "DB") ≡ true
    → IsNumber text db m → is_data_number db ≡ true → accepts mnemonic forms.FunctionBlockWithData ≡ true
    → operand_at text temps mnemonic (w ∷ n ∷ c ∷ d ∷ m ∷ rest) ≡ Ok (operand row.area row.unit db number, m, rest)

-- SFC 43 and SFC 46 are read as the call of that system function, whatever follows
abbrev pub SystemFunctionsSpelledAreRead : Type 0
SystemFunctionsSpelledAreRead =
    (text : List ℕ) (temps : Section) (mnemonic : List ℕ) (row : OperandWord) (number : ℕ) (w n : Token) (rest : List Token)
    → IsRowWord text row w → row.form ≡ forms.SystemFunction → IsNumber text number n → (number ≡ 43) ⊎ (number ≡ 46)
    → accepts mnemonic forms.SystemFunction ≡ true
    → operand_at text temps mnemonic (w ∷ n ∷ rest) ≡ Ok (operand row.area row.unit 0 number, n, rest)

-- a comparison with 0 is read as that status operand, whatever follows
abbrev pub ComparisonsSpelledAreRead : Type 0
ComparisonsSpelledAreRead =
    (text : List ℕ) (temps : Section) (mnemonic : List ℕ) (row : StatusSign) (s z : Token) (rest : List Token)
    → IsOneOf row status_signs → IsSign text (letters_of row.sign) s → is_number_kind z.kind ≡ true → spelling text z ≡ codes "0" → accepts mnemonic forms.Status ≡ true
    → operand_at text temps mnemonic (s ∷ z ∷ rest) ≡ Ok (operand areas.Status 0 0 row.value, z, rest)

-- A point or a bracket stands next. A number goes on with a point, as a real number; a name goes on with a bracket.
abbrev pub goes_on : List ℕ → List Token → Bool
goes_on text [] = false
goes_on text (t ∷ ts) = is_sign text t (codes ".") || is_sign text t (codes "[")

-- What is spelled as an operand, in a form that the mnemonic takes, is read as that operand and as no other, and what
-- follows is left, whatever it is but a point or a bracket.
abbrev pub OperandsSpelledAreRead : Type 0
OperandsSpelledAreRead =
    (text : List ℕ) (temps : Section) (mnemonic : List ℕ) (form : OperandForm) (o : Operand) (front rest : List Token) (t : Token)
    → IsOperand text temps form o front → accepts mnemonic form ≡ true → goes_on text rest ≡ false
    → operand_at text temps mnemonic (front ++ rest) ≡ Ok (o, last_of t front, rest)
