-- Operands leave no more tokens than there were.
use Rattle.std.proofs.Common.{◌<◌, ℕ, suc, List, [], ◌∷◌, length, drop, Bool, true, false, arith}
use Rattle.std.specs.Prelude.{Option, Some, None, ◌&&◌, nat_le, codes}
use Rattle.stl_lex.specs.declared.piece.TokenKind.{TokenKind}
use Rattle.stl_lex.specs.declared.piece.TokenKind.TheVariants as kinds
use Rattle.stl_lex.specs.declared.token.Token.{Token}
use Rattle.stl_decl.specs.declared.constants.Constant.{Constant}
use Rattle.stl_decl.specs.declared.types.Shape.{Shape}
use Rattle.stl_decl.specs.declared.types.Variable.{Variable}
use Rattle.stl_decl.specs.Steps.{spelling, upper, is_number_kind, is_word_kind, is_sign, is_word, sign_at, number_at, signed_at, integer_at, maybe_sign_at}
use Rattle.stl_decl.specs.Types.{is_int}
use Rattle.stl_decl.specs.Layout.{Section, variable_of}
use Rattle.stl_decl.specs.Elements.{index_of, indexed_at, element_by, element_at}
use Rattle.stl_decl.specs.Constants.{constant_of, begins_integer, integer_value_at, single_value, value_at}
use Rattle.stl_reader.specs.declared.forms.OperandForm.{OperandForm}
use Rattle.stl_reader.specs.declared.forms.OperandForm.TheVariants as forms
use Rattle.stl_reader.specs.declared.words.OperandWord.{OperandWord}
use Rattle.stl_reader.specs.declared.words.StatusSign.{StatusSign}
use Rattle.stl_reader.specs.Forms.{accepts}
use Rattle.stl_reader.specs.Words.{operand_word, status_sign}
use Rattle.s7_base.specs.Operands.{is_data_number}
use Rattle.stl_reader.specs.Addresses.{taken, judged, part_number, part_sign, part_word, address, bit_operand, byte_operand}
use Rattle.stl_reader.specs.Constants.{is_plus_or_minus, is_real, form_of, number_operand, unsigned_operand, single_operand, is_zero, zero_at, status_operand, signed_operand, sign_by}
use Rattle.stl_reader.specs.Operands.{plain_operand, instance_operand, system_judged, system_operand, taken_operand, row_operand, data_number, is_data_word, data_word_by, data_word, takes_memory, opened_operand, unnamed_operand, label_name, label_operand, word_by, area_operand}
use Rattle.stl_reader.specs.Locals.{local_form, suits_mnemonic, element_operand, variable_operand, named_local, local_operand}
use Rattle.stl_reader.specs.Statements.{fixed_operand, kind_operand, operand_at, wants_operand, argument_at}
use Rattle.stl_reader.proofs.Leaves.{Leaves, Finds, gives, refuses, finds, nothing, leaves_less, either, either_found, followed, tested}

-- numbers and elements of the declarations
module _ (text : List ℕ) where
  sign_leaves : (sign : List ℕ) (tokens : List Token) → Leaves (λ x. x.1) (length tokens) (sign_at text sign tokens)
  sign_leaves sign [] = refuses _
  sign_leaves sign (t ∷ ts) = either (is_sign text t sign) _ _ (gives (t, ts) (omega arith)) (refuses _)

  sign_found : (sign : List ℕ) (tokens : List Token) → Finds (λ x. x.1) (length tokens) (maybe_sign_at text sign tokens)
  sign_found sign [] = nothing
  sign_found sign (t ∷ ts) = either_found (is_sign text t sign) _ _ (finds (t, ts) (omega arith)) nothing

  number_leaves : (tokens : List Token) → Leaves (λ x. x.2) (length tokens) (number_at text tokens)
  number_leaves [] = refuses _
  number_leaves (t ∷ ts) = either (is_number_kind t.kind) _ _ (gives _ (omega arith)) (refuses _)

  signed_leaves : (negative : Bool) (first : Token) (tokens : List Token) → Leaves (λ x. x.1) (length tokens) (signed_at text negative first tokens)
  unfolding signed_at
  signed_leaves negative first tokens = followed (number_at text tokens) _ (number_leaves tokens) (λ number h. gives _ h)

  integer_leaves : (tokens : List Token) → Leaves (λ x. x.1) (length tokens) (integer_at text tokens)
  unfolding integer_at
  integer_leaves [] = refuses _
  integer_leaves (t ∷ ts) =
      either (is_sign text t (codes "-")) _ _ (leaves_less (length ts) (signed_at text true t ts) (omega arith) (signed_leaves true t ts))
      (either (is_sign text t (codes "+")) _ _ (leaves_less (length ts) (signed_at text false t ts) (omega arith) (signed_leaves false t ts))
      (signed_leaves false t (t ∷ ts)))

  indexed_leaves : (shape : Shape) (tokens : List Token) → Leaves (λ x. x.2) (length tokens) (indexed_at text shape tokens)
  unfolding indexed_at
  indexed_leaves shape tokens =
      followed (integer_at text tokens) _ (integer_leaves tokens)
      (λ index a. tested (index_of shape index.0) _
      (λ k. followed (sign_at text (codes "]") index.1) _ (sign_leaves (codes "]") index.1)
      (λ closing b. gives _ (omega arith))))

  element_by_leaves : (o : Option (Token × List Token)) (shape : Shape) (name : Token) (tokens : List Token) → Finds (λ x. x.1) (length tokens) o → Leaves (λ x. x.2) (suc (length tokens)) (element_by o text shape name tokens)
  element_by_leaves (Some x) shape name tokens h =
      let fewer : length x.1 < length tokens = h.fewer in
      leaves_less (length x.1) (indexed_at text shape x.1) (omega arith) (indexed_leaves shape x.1)
  element_by_leaves None shape name tokens h = either shape.is_array _ _ (refuses _) (gives (0, name, tokens) (omega arith))

  element_leaves : (shape : Shape) (name : Token) (tokens : List Token) → Leaves (λ x. x.2) (suc (length tokens)) (element_at text shape name tokens)
  element_leaves shape name tokens = element_by_leaves (maybe_sign_at text (codes "[") tokens) shape name tokens (sign_found (codes "[") tokens)

  integer_value_leaves : (tokens : List Token) → Leaves (λ x. x.1) (length tokens) (integer_value_at text tokens)
  unfolding integer_value_at
  integer_value_leaves tokens =
      followed (integer_at text tokens) _ (integer_leaves tokens) (λ number h. either (is_int number.0) _ _ (gives _ h) (refuses _))

  single_value_leaves : (o : Option Constant) (t : Token) (ts : List Token) → Leaves (λ x. x.1) (suc (length ts)) (single_value o text t ts)
  single_value_leaves None t ts = refuses _
  single_value_leaves (Some c) t ts = gives _ (omega arith)

  value_leaves : (tokens : List Token) → Leaves (λ x. x.1) (length tokens) (value_at text tokens)
  value_leaves [] = refuses _
  value_leaves (t ∷ ts) =
      either (begins_integer text t) _ _ (integer_value_leaves (t ∷ ts))
      (leaves_less (suc (length ts)) (single_value (constant_of text t) text t ts) (omega arith) (single_value_leaves (constant_of text t) t ts))

module _ (text mnemonic : List ℕ) where
  -- parts of an operand
  part_number_leaves : (tokens : List Token) → Leaves (λ x. x.2) (length tokens) (part_number text mnemonic tokens)
  part_number_leaves [] = refuses _
  part_number_leaves (t ∷ ts) = either (is_number_kind t.kind) _ _ (gives _ (omega arith)) (refuses _)

  part_sign_leaves : (sign : List ℕ) (tokens : List Token) → Leaves (λ x. x.1) (length tokens) (part_sign text mnemonic sign tokens)
  part_sign_leaves sign [] = refuses _
  part_sign_leaves sign (t ∷ ts) = either (is_sign text t sign) _ _ (gives (t, ts) (omega arith)) (refuses _)

  part_word_leaves : (word : List ℕ) (tokens : List Token) → Leaves (λ x. x.1) (length tokens) (part_word text mnemonic word tokens)
  part_word_leaves word [] = refuses _
  part_word_leaves word (t ∷ ts) = either (is_word text t word) _ _ (gives (t, ts) (omega arith)) (refuses _)

  address_leaves : (tokens : List Token) → Leaves (λ x. x.2) (length tokens) (address text mnemonic tokens)
  address_leaves [] = refuses _
  address_leaves (t ∷ ts) = either (is_sign text t (codes "[")) _ _ (refuses _) (part_number_leaves (t ∷ ts))

  -- operands that begin with a word
  bit_leaves : (row : OperandWord) (first : Token) (tokens : List Token) → Leaves (λ x. x.2) (length tokens) (bit_operand text mnemonic row first tokens)
  unfolding bit_operand
  bit_leaves row first tokens =
      followed (address text mnemonic tokens) _ (address_leaves tokens)
      (λ byte a. followed (part_sign text mnemonic (codes ".") byte.2) _ (part_sign_leaves (codes ".") byte.2)
      (λ dot b. followed (part_number text mnemonic dot.1) _ (part_number_leaves dot.1)
      (λ bit c. tested (judged (nat_le bit.0 7) first) _
      (λ small. gives _ (omega arith)))))

  byte_leaves : (row : OperandWord) (tokens : List Token) → Leaves (λ x. x.2) (length tokens) (byte_operand text mnemonic row tokens)
  unfolding byte_operand
  byte_leaves row tokens = followed (address text mnemonic tokens) _ (address_leaves tokens) (λ number h. gives _ h)

  plain_leaves : (form : OperandForm) (row : OperandWord) (first : Token) (rest : List Token) → Leaves (λ x. x.2) (suc (length rest)) (plain_operand form text mnemonic row first rest)
  plain_leaves forms.Bit row first rest = leaves_less (length rest) (bit_operand text mnemonic row first rest) (omega arith) (bit_leaves row first rest)
  plain_leaves forms.Status row first rest = gives _ (omega arith)
  plain_leaves forms.StatusWord row first rest = gives _ (omega arith)
  plain_leaves forms.DataRegister row first rest = gives _ (omega arith)
  plain_leaves _ row first rest = leaves_less (length rest) (byte_operand text mnemonic row rest) (omega arith) (byte_leaves row rest)

  instance_leaves : (row : OperandWord) (first : Token) (tokens : List Token) → Leaves (λ x. x.2) (length tokens) (instance_operand text mnemonic row first tokens)
  unfolding instance_operand
  instance_leaves row first tokens =
      followed (address text mnemonic tokens) _ (address_leaves tokens)
      (λ number a. followed (part_sign text mnemonic (codes ",") number.2) _ (part_sign_leaves (codes ",") number.2)
      (λ comma b. followed (part_word text mnemonic (codes "DB") comma.1) _ (part_word_leaves (codes "DB") comma.1)
      (λ db c. followed (address text mnemonic db.1) _ (address_leaves db.1)
      (λ data_block d. tested (judged (is_data_number data_block.0) first) _
      (λ known. gives _ (omega arith))))))

  system_leaves : (row : OperandWord) (first : Token) (tokens : List Token) → Leaves (λ x. x.2) (length tokens) (system_operand text mnemonic row first tokens)
  unfolding system_operand
  system_leaves row first tokens =
      tested (taken text mnemonic forms.Function first) _
      (λ calls. followed (byte_operand text mnemonic row tokens) _ (byte_leaves row tokens)
      (λ operand h. tested (system_judged mnemonic operand.0.value first) _
      (λ known. gives operand h)))

  taken_leaves : (row : OperandWord) (first : Token) (rest : List Token) → Leaves (λ x. x.2) (suc (length rest)) (taken_operand text mnemonic row first rest)
  taken_leaves row first rest = tested (taken text mnemonic row.form first) _ (λ form. plain_leaves row.form row first rest)

  row_leaves : (form : OperandForm) (row : OperandWord) (first : Token) (rest : List Token) → Leaves (λ x. x.2) (suc (length rest)) (row_operand form text mnemonic row first rest)
  row_leaves forms.SystemFunction row first rest = leaves_less (length rest) (system_operand text mnemonic row first rest) (omega arith) (system_leaves row first rest)
  row_leaves forms.FunctionBlock row first rest =
      either (accepts mnemonic forms.FunctionBlockWithData) _ _
      (leaves_less (length rest) (instance_operand text mnemonic row first rest) (omega arith) (instance_leaves row first rest))
      (taken_leaves row first rest)
  row_leaves _ row first rest = taken_leaves row first rest

  data_word_by_leaves : (o : Option OperandWord) (t : Token) (ts : List Token) → Leaves (λ x. x.2) (suc (length ts)) (data_word_by o text mnemonic t ts)
  data_word_by_leaves None t ts = refuses _
  data_word_by_leaves (Some row) t ts = either (is_data_word row && accepts mnemonic row.form) _ _ (gives (row, t, ts) (omega arith)) (refuses _)

  data_word_leaves : (tokens : List Token) → Leaves (λ x. x.2) (length tokens) (data_word text mnemonic tokens)
  data_word_leaves [] = refuses _
  data_word_leaves (t ∷ ts) =
      either (is_word_kind t.kind) _ _
      (leaves_less (suc (length ts)) (data_word_by (operand_word (spelling text t)) text mnemonic t ts) (omega arith) (data_word_by_leaves (operand_word (spelling text t)) t ts))
      (refuses _)

  opened_leaves : (number : ℕ) (first : Token) (tokens : List Token) → Leaves (λ x. x.2) (length tokens) (opened_operand text mnemonic number first tokens)
  unfolding opened_operand
  opened_leaves number first tokens =
      followed (part_sign text mnemonic (codes ".") tokens) _ (part_sign_leaves (codes ".") tokens)
      (λ dot a. followed (data_word text mnemonic dot.1) _ (data_word_leaves dot.1)
      (λ row b. followed (plain_operand row.0.form text mnemonic row.0 first row.2) _ (plain_leaves row.0.form row.0 first row.2)
      (λ operand c. tested (judged (is_data_number number) first) _
      (λ known. gives _ (omega arith)))))

  unnamed_leaves : (o : Option ℕ) (first : Token) (rest : List Token) → Leaves (λ x. x.2) (suc (length rest)) (unnamed_operand o text mnemonic first rest)
  unnamed_leaves None first rest = refuses _
  unnamed_leaves (Some number) first rest =
      either (takes_memory mnemonic) _ _
      (leaves_less (length rest) (opened_operand text mnemonic number first rest) (omega arith) (opened_leaves number first rest))
      (refuses _)

  label_leaves : (o : Option (List ℕ)) (first : Token) (rest : List Token) → Leaves (λ x. x.2) (suc (length rest)) (label_operand o first rest)
  label_leaves None first rest = refuses _
  label_leaves (Some name) first rest = gives _ (omega arith)

  word_leaves : (o : Option OperandWord) (first : Token) (rest : List Token) → Leaves (λ x. x.2) (suc (length rest)) (word_by o text mnemonic first rest)
  word_leaves (Some row) first rest = row_leaves row.form row first rest
  word_leaves None first rest = unnamed_leaves (data_number (spelling text first)) first rest

  area_leaves : (first : Token) (rest : List Token) → Leaves (λ x. x.2) (suc (length rest)) (area_operand text mnemonic first rest)
  unfolding area_operand
  area_leaves first rest =
      either (accepts mnemonic forms.Label) _ _ (label_leaves (label_name (spelling text first)) first rest)
      (word_leaves (operand_word (spelling text first)) first rest)

  -- constants, and the comparisons with 0
  number_operand_leaves : (tokens : List Token) → Leaves (λ x. x.2) (length tokens) (number_operand text tokens)
  unfolding number_operand
  number_operand_leaves tokens = followed (value_at text tokens) _ (value_leaves text tokens) (λ value h. gives _ h)

  unsigned_leaves : (first : Token) (tokens : List Token) → Leaves (λ x. x.2) (length tokens) (unsigned_operand text mnemonic first tokens)
  unfolding unsigned_operand
  unsigned_leaves first tokens = tested (taken text mnemonic forms.Number first) _ (λ number. number_operand_leaves tokens)

  single_leaves : (o : Option Constant) (first : Token) (rest : List Token) → Leaves (λ x. x.2) (suc (length rest)) (single_operand o text mnemonic first rest)
  single_leaves None first rest = refuses _
  single_leaves (Some c) first rest = tested (taken text mnemonic (form_of c.form) first) _ (λ constant. gives _ (omega arith))

  zero_leaves : (tokens : List Token) → Leaves (λ x. x.1) (length tokens) (zero_at text mnemonic tokens)
  zero_leaves [] = refuses _
  zero_leaves (t ∷ ts) = either (is_zero text t) _ _ (gives (t, ts) (omega arith)) (refuses _)

  status_leaves : (row : StatusSign) (first : Token) (tokens : List Token) → Leaves (λ x. x.2) (length tokens) (status_operand text mnemonic row first tokens)
  unfolding status_operand
  status_leaves row first tokens =
      tested (taken text mnemonic forms.Status first) _
      (λ status. followed (zero_at text mnemonic tokens) _ (zero_leaves tokens) (λ zero h. gives _ h))

  signed_operand_leaves : (first : Token) (tokens : List Token) → Leaves (λ x. x.2) (length tokens) (signed_operand text mnemonic first tokens)
  unfolding signed_operand
  signed_operand_leaves first tokens =
      either (is_plus_or_minus text first) _ _
      (tested (taken text mnemonic forms.SignedNumber first) _ (λ sign. number_operand_leaves tokens)) (refuses _)

  sign_by_leaves : (o : Option StatusSign) (first : Token) (rest : List Token) → Leaves (λ x. x.2) (suc (length rest)) (sign_by o text mnemonic first rest (first ∷ rest))
  sign_by_leaves (Some row) first rest = leaves_less (length rest) (status_operand text mnemonic row first rest) (omega arith) (status_leaves row first rest)
  sign_by_leaves None first rest = leaves_less (length (first ∷ rest)) (signed_operand text mnemonic first (first ∷ rest)) (omega arith) (signed_operand_leaves first (first ∷ rest))

  -- an operand by the kind of its first token
  fixed_leaves : (kind : TokenKind) (first : Token) (rest : List Token) → Leaves (λ x. x.2) (suc (length rest)) (fixed_operand kind text mnemonic first rest (first ∷ rest))
  fixed_leaves kinds.Word first rest = area_leaves first rest
  fixed_leaves kinds.Number first rest = leaves_less (length (first ∷ rest)) (unsigned_operand text mnemonic first (first ∷ rest)) (omega arith) (unsigned_leaves first (first ∷ rest))
  fixed_leaves kinds.Literal first rest = single_leaves (constant_of text first) first rest
  fixed_leaves kinds.Characters first rest = single_leaves (constant_of text first) first rest
  fixed_leaves kinds.Sign first rest = sign_by_leaves (status_sign (spelling text first)) first rest
  fixed_leaves _ first rest = refuses _

module _ (text : List ℕ) (temps : Section) (mnemonic : List ℕ) where
  -- named locals
  element_operand_leaves : (variable : Variable) (first : Token) (rest : List Token) → Leaves (λ x. x.2) (suc (length rest)) (element_operand text variable first rest)
  element_operand_leaves variable first rest = followed (element_at text variable.shape first rest) _ (element_leaves text variable.shape first rest) (λ element h. gives _ h)

  named_leaves : (o : Option Variable) (first : Token) (rest : List Token) → Leaves (λ x. x.2) (suc (length rest)) (named_local o text mnemonic first rest)
  unfolding variable_operand
  named_leaves None first rest = refuses _
  named_leaves (Some variable) first rest =
      either (suits_mnemonic mnemonic (local_form variable.shape.simple)) _ _ (element_operand_leaves variable first rest) (refuses _)

  local_leaves : (first : Token) (rest : List Token) → Leaves (λ x. x.2) (suc (length rest)) (local_operand text temps mnemonic first rest)
  local_leaves first rest =
      either (takes_memory mnemonic) _ _ (named_leaves (variable_of temps (upper (drop 1 (spelling text first)))) first rest) (refuses _)

  kind_leaves : (kind : TokenKind) (first : Token) (rest : List Token) → Leaves (λ x. x.2) (suc (length rest)) (kind_operand kind text temps mnemonic first rest (first ∷ rest))
  kind_leaves kinds.Local first rest = local_leaves first rest
  kind_leaves kind first rest = fixed_leaves text mnemonic kind first rest

  operand_leaves : (tokens : List Token) → Leaves (λ x. x.2) (length tokens) (operand_at text temps mnemonic tokens)
  unfolding operand_at
  operand_leaves [] = refuses _
  operand_leaves (t ∷ ts) =
      either (is_real text (t ∷ ts)) _ _ (refuses _)
      (leaves_less (suc (length ts)) (kind_operand t.kind text temps mnemonic t ts (t ∷ ts)) (omega arith) (kind_leaves t.kind t ts))

pub argument_leaves : (text : List ℕ) (temps : Section) (mnemonic : List ℕ) (last : Token) (tokens : List Token) → Leaves (λ x. x.2) (suc (length tokens)) (argument_at text temps mnemonic last tokens)
unfolding argument_at
argument_leaves text temps mnemonic last tokens =
    either (wants_operand text mnemonic tokens) _ _
    (leaves_less (length tokens) (operand_at text temps mnemonic tokens) (omega arith) (operand_leaves text temps mnemonic tokens))
    (gives _ (omega arith))
