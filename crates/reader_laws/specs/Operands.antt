-- How operands are spelled: a relation between an operand as it is stored and the tokens that stand for it.
use Rattle.std.specs.Prelude.{◌≡◌, ℕ, List, [], ◌∷◌, ◌+◌, ◌*◌, ◌/◌, ◌%◌, ◌-◌, ◌<◌, ◌++◌, ◌⊎◌, drop, min, nat_le, Bool, true, false, Some, Ok, codes, if◌then◌else◌}
use Rattle.instruction_set.specs.declared.operands.OperandArea.{OperandArea}
use Rattle.instruction_set.specs.declared.operands.OperandArea.TheVariants as areas
use Rattle.s7_base.specs.Operands.{is_data_number}
use Rattle.stl_lex.specs.Bytes.{letters_of}
use Rattle.stl_lex.specs.declared.piece.TokenKind.TheVariants as kinds
use Rattle.stl_lex.specs.declared.token.Token.{Token}
use Rattle.stl_decl.specs.declared.constants.Constant.{Constant}
use Rattle.stl_decl.specs.declared.types.SimpleType.{SimpleType}
use Rattle.stl_decl.specs.declared.types.SimpleType.TheVariants as types
use Rattle.stl_decl.specs.Places.{Place}
use Rattle.stl_decl.specs.Types.{bits_of, rank}
use Rattle.stl_decl.specs.Layout.{Section, variable_of}
use Rattle.stl_decl.specs.Steps.{spelling, upper, is_word, is_word_kind, is_number_kind, number_of}
use Rattle.stl_decl.specs.Constants.{constant_of, stored}
use Rattle.stl_reader.specs.declared.forms.OperandForm.{OperandForm}
use Rattle.stl_reader.specs.declared.forms.OperandForm.TheVariants as forms
use Rattle.stl_reader.specs.declared.words.OperandWord.{OperandWord}
use Rattle.stl_reader.specs.declared.words.StatusSign.{StatusSign}
use Rattle.stl_reader.specs.declared.addresses.Operand.{Operand}
use Rattle.stl_reader.specs.OperandWords.{status_signs}
use Rattle.stl_reader.specs.Forms.{accepts}
use Rattle.stl_reader.specs.Statements.{operand_at}
use Rattle.stl_reader.specs.Addresses.{no_name}
use Rattle.stl_reader.specs.Operands.{data_number, label_name}
use Rattle.stl_reader.specs.Constants.{form_of, constant_operand}
use Rattle.reader_laws.specs.Tokens.{IsOneOf, IsNumber, IsSign, IsRowWord}

-- an operand with this area, bit or unit, data block and value
abbrev pub operand : OperandArea → ℕ → ℕ → ℕ → Operand
operand area bit db value = record { area = area; bit = bit; db = db; value = value; name = no_name }

-- nothing stands behind a word of this form
abbrev pub is_bare : OperandForm → Bool
is_bare forms.Status = true
is_bare forms.StatusWord = true
is_bare forms.DataRegister = true
is_bare _ = false

-- a number stands behind a word of this form
abbrev pub is_numbered : OperandForm → Bool
is_numbered forms.Value = true
is_numbered forms.PeripheralIn = true
is_numbered forms.PeripheralOut = true
is_numbered forms.Timer = true
is_numbered forms.Counter = true
is_numbered forms.DataBlock = true
is_numbered forms.InstanceBlock = true
is_numbered forms.Function = true
is_numbered forms.FunctionBlock = true
is_numbered _ = false

-- what stands behind the word of the row, and what it says: the bit or the unit, and the value
pub data IsAddress (text : List ℕ) (row : OperandWord) : ℕ → ℕ → List Token → Type 0 where
  -- byte "." bit
  of_bit : (byte bit : ℕ) (b p x : Token) → row.form ≡ forms.Bit → IsNumber text byte b → IsSign text (codes ".") p → IsNumber text bit x → nat_le bit 7 ≡ true → IsAddress text row bit byte (b ∷ p ∷ x ∷ [])
  -- a number
  of_number : (n : ℕ) (t : Token) → is_numbered row.form ≡ true → IsNumber text n t → IsAddress text row row.unit n (t ∷ [])
  -- nothing
  of_word : is_bare row.form ≡ true → IsAddress text row row.unit row.value []

-- a number with its sign, if it has one
pub data IsInteger (text : List ℕ) : Bool → ℕ → List Token → Type 0 where
  unsigned : (t : Token) → is_number_kind t.kind ≡ true → IsInteger text false (number_of text t) (t ∷ [])
  positive : (s t : Token) → IsSign text (codes "+") s → is_number_kind t.kind ≡ true → IsInteger text false (number_of text t) (s ∷ t ∷ [])
  negative : (s t : Token) → IsSign text (codes "-") s → is_number_kind t.kind ≡ true → IsInteger text true (number_of text t) (s ∷ t ∷ [])

-- from -32,768 to 32,767
abbrev pub is_in_range : Bool → ℕ → Bool
is_in_range minus n = if minus then nat_le n 32768 else nat_le n 32767

-- how many INT stand below the number
abbrev pub below : Bool → ℕ → ℕ
below minus n = if minus then 32768 - n else 32768 + n

-- a number without a sign, or with one
abbrev pub number_form : List Token → OperandForm
number_form (t ∷ u ∷ ts) = forms.SignedNumber
number_form _ = forms.Number

-- the unit that values of a type are stored in
pub data IsUnit : SimpleType → ℕ → Type 0 where
  byte : IsUnit types.Byte 8
  char : IsUnit types.Char 8
  word : IsUnit types.Word 9
  int : IsUnit types.Int 9
  s5time : IsUnit types.S5Time 9
  date : IsUnit types.Date 9
  dword : IsUnit types.DWord 10
  dint : IsUnit types.DInt 10
  time : IsUnit types.Time 10
  time_of_day : IsUnit types.TimeOfDay 10

-- a value of the type that begins at this bit of the local data, as an operand
pub data IsLocal (simple : SimpleType) (at : ℕ) : OperandForm → Operand → Type 0 where
  of_bit : simple ≡ types.Bool → IsLocal simple at forms.Bit (operand areas.Local (at % 8) 0 (min (at / 8) 4294967295))
  of_bytes : (unit : ℕ) → IsUnit simple unit → IsLocal simple at forms.Value (operand areas.Local unit 0 (min (at / 8) 4294967295))

-- what a name of the local data stands for
pub record IsName (text : List ℕ) (temps : Section) (place : Place) (t : Token) : Type 0 where
  pub kind : t.kind ≡ kinds.Local
  pub declared : variable_of temps (upper (drop 1 (spelling text t))) ≡ Some place

-- the element that the index names is k elements above the first
pub record IsElement (place : Place) (minus : Bool) (n k : ℕ) : Type 0 where
  pub is_array : place.shape.is_array ≡ true
  pub range : is_in_range minus n ≡ true
  pub above : below minus n ≡ rank place.shape.low + k
  pub within : k < place.shape.count

-- the tokens spell the operand in this form
pub data IsOperand (text : List ℕ) (temps : Section) : OperandForm → Operand → List Token → Type 0 where
  -- I 0.0, MW 4, T 5, DB 3, FC 1, BR
  by_address : (row : OperandWord) (bit value : ℕ) (w : Token) (ts : List Token) → IsRowWord text row w → IsAddress text row bit value ts → IsOperand text temps row.form (operand row.area bit 0 value) (w ∷ ts)
  -- DB5.DBX 0.0, DB5.DBW 4
  by_data_block : (row : OperandWord) (number bit value : ℕ) (d p w : Token) (ts : List Token) → is_word_kind d.kind ≡ true → data_number (spelling text d) ≡ Some number → is_data_number number ≡ true → IsSign text (codes ".") p → IsRowWord text row w → row.area ≡ areas.Data → (row.form ≡ forms.Bit) ⊎ (row.form ≡ forms.Value) → IsAddress text row bit value ts → IsOperand text temps row.form (operand row.area bit number value) (d ∷ p ∷ w ∷ ts)
  -- FB 1, DB 2
  by_instance : (row : OperandWord) (number db : ℕ) (w n c d m : Token) → IsRowWord text row w → row.form ≡ forms.FunctionBlock → IsNumber text number n → IsSign text (codes ",") c → is_word text d (codes "DB") ≡ true → IsNumber text db m → is_data_number db ≡ true → IsOperand text temps forms.FunctionBlockWithData (operand row.area row.unit db number) (w ∷ n ∷ c ∷ d ∷ m ∷ [])
  -- SFC 43, SFC 46
  by_system : (row : OperandWord) (number : ℕ) (w n : Token) → IsRowWord text row w → row.form ≡ forms.SystemFunction → IsNumber text number n → (number ≡ 43) ⊎ (number ≡ 46) → IsOperand text temps forms.SystemFunction (operand row.area row.unit 0 number) (w ∷ n ∷ [])
  -- ==0
  by_sign : (row : StatusSign) (s z : Token) → IsOneOf row status_signs → IsSign text (letters_of row.sign) s → is_number_kind z.kind ≡ true → spelling text z ≡ codes "0" → IsOperand text temps forms.Status (operand areas.Status 0 0 row.value) (s ∷ z ∷ [])
  -- the label of a jump
  by_label : (name : List ℕ) (w : Token) → is_word_kind w.kind ≡ true → label_name (spelling text w) ≡ Some name → IsOperand text temps forms.Label (record { area = areas.Target; bit = 0; db = 0; value = 0; name = name }) (w ∷ [])
  -- 5, -5
  by_number : (minus : Bool) (n : ℕ) (ts : List Token) → IsInteger text minus n ts → is_in_range minus n ≡ true → IsOperand text temps (number_form ts) (operand areas.Word 0 0 (stored minus 65536 n)) ts
  -- L#5, W#16#1F, 'a'
  by_literal : (c : Constant) (t : Token) → (t.kind ≡ kinds.Literal) ⊎ (t.kind ≡ kinds.Characters) → constant_of text t ≡ Some c → IsOperand text temps (form_of c.form) (constant_operand c) (t ∷ [])
  -- #x
  by_name : (place : Place) (form : OperandForm) (o : Operand) (t : Token) → IsName text temps place t → place.shape.is_array ≡ false → IsLocal place.shape.simple place.first_bit form o → IsOperand text temps form o (t ∷ [])
  -- #x[3]
  by_element : (place : Place) (minus : Bool) (n k : ℕ) (form : OperandForm) (o : Operand) (t opening closing : Token) (ts : List Token) → IsName text temps place t → IsSign text (codes "[") opening → IsInteger text minus n ts → IsElement place minus n k → IsSign text (codes "]") closing → IsLocal place.shape.simple (place.first_bit + k * bits_of place.shape.simple) form o → IsOperand text temps form o (t ∷ opening ∷ (ts ++ closing ∷ []))

-- the last of the tokens
abbrev pub last_of : Token → List Token → Token
last_of t [] = t
last_of t (u ∷ us) = last_of u us

-- what was read behind a mnemonic is spelled by the tokens that it took, in a form that the mnemonic takes
pub record IsReadAs (text : List ℕ) (temps : Section) (mnemonic : List ℕ) (tokens : List Token) (x : Operand × Token × List Token) : Type 0 where
  pub form : OperandForm
  pub front : List Token
  pub cut : tokens ≡ front ++ x.2
  pub last : last_of x.1 front ≡ x.1
  pub takes : accepts mnemonic form ≡ true
  pub spelled : IsOperand text temps form x.0 front

-- what is read as an operand is spelled so
abbrev pub OperandsReadAreSpelled : Type 0
OperandsReadAreSpelled =
    (text : List ℕ) (temps : Section) (mnemonic : List ℕ) (tokens : List Token) (x : Operand × Token × List Token)
    → operand_at text temps mnemonic tokens ≡ Ok x → IsReadAs text temps mnemonic tokens x
