-- Names of the local data that are spelled so are read.
use Rattle.std.proofs.Common.{◌≡◌, ◌≤◌, ◌<◌, ◌-◌, ◌+◌, ◌*◌, ◌/◌, ◌%◌, ℕ, List, [], ◌∷◌, ◌++◌, refl, ◌∙◌, Bool, true, false, inl, inr, arith, append_assoc}
use Rattle.std.specs.Prelude.{Ok, Some, None, min, codes}
use Rattle.std.proofs.lemmas.Bool.{or_parts, le-ltb, lt-leb}
use Rattle.instruction_set.specs.declared.operands.OperandArea.TheVariants as areas
use Rattle.stl_lex.specs.declared.piece.TokenKind.{TokenKind}
use Rattle.stl_lex.specs.declared.piece.TokenKind.TheVariants as kinds
use Rattle.stl_lex.specs.declared.token.Token.{Token}
use Rattle.stl_decl.specs.declared.steps.SignedNumber.{SignedNumber}
use Rattle.stl_decl.specs.declared.types.SimpleType.{SimpleType}
use Rattle.stl_decl.specs.declared.types.SimpleType.TheVariants as types
use Rattle.stl_decl.specs.Places.{Place}
use Rattle.stl_decl.specs.Types.{rank, int_value, bits_of, element_bit}
use Rattle.stl_decl.specs.Layout.{Section}
use Rattle.stl_decl.specs.Steps.{is_sign, maybe_sign_at}
use Rattle.stl_decl.specs.Elements.{element_above, index_of, indexed_at}
use Rattle.stl_reader.specs.declared.forms.OperandForm.{OperandForm}
use Rattle.stl_reader.specs.declared.forms.OperandForm.TheVariants as forms
use Rattle.stl_reader.specs.declared.addresses.Operand.{Operand}
use Rattle.stl_reader.specs.Forms.{accepts}
use Rattle.stl_reader.specs.Constants.{is_real}
use Rattle.stl_reader.specs.Operands.{takes_memory}
use Rattle.stl_reader.specs.Locals.{local_form, local_at, element_operand, variable_operand, local_operand}
use Rattle.stl_reader.specs.Statements.{kind_operand, operand_at}
use Rattle.reader_laws.specs.Tokens.{IsSign}
use Rattle.reader_laws.specs.Operands.{operand, IsInteger, IsUnit, byte, char, word, int, s5time, date, dword, dint, time, time_of_day, IsLocal, of_bit, of_bytes, IsName, IsElement, last_of}
use Rattle.reader_laws.specs.Spelled.{goes_on}
use Rattle.reader_laws.proofs.Locals.{rank_below, last_closing}
use Rattle.reader_laws.proofs.Opened.{memory_taken}
use Rattle.reader_laws.proofs.Figures.{integer_again}

-- a value of the type is this operand in this form
record Stands (simple : SimpleType) (at : ℕ) (f : OperandForm) (o : Operand) : Type 0 where
  form : local_form simple ≡ Some f
  operand : local_at simple at ≡ o

bit_stands : (simple : SimpleType) (at : ℕ) → simple ≡ types.Bool → Stands simple at forms.Bit (operand areas.Local (at % 8) 0 (min (at / 8) 4294967295))
bit_stands types.Bool at e = record { form = refl; operand = refl }
bit_stands _ at e = absurd cc

unit_stands : (simple : SimpleType) (at unit : ℕ) → IsUnit simple unit → Stands simple at forms.Value (operand areas.Local unit 0 (min (at / 8) 4294967295))
unit_stands simple at unit byte = record { form = refl; operand = refl }
unit_stands simple at unit char = record { form = refl; operand = refl }
unit_stands simple at unit word = record { form = refl; operand = refl }
unit_stands simple at unit int = record { form = refl; operand = refl }
unit_stands simple at unit s5time = record { form = refl; operand = refl }
unit_stands simple at unit date = record { form = refl; operand = refl }
unit_stands simple at unit dword = record { form = refl; operand = refl }
unit_stands simple at unit dint = record { form = refl; operand = refl }
unit_stands simple at unit time = record { form = refl; operand = refl }
unit_stands simple at unit time_of_day = record { form = refl; operand = refl }

stands : (simple : SimpleType) (at : ℕ) (form : OperandForm) (o : Operand) → IsLocal simple at form o → Stands simple at form o
stands simple at form o (of_bit is) = bit_stands simple at is
stands simple at form o (of_bytes unit h) = unit_stands simple at unit h

memory_name : (mnemonic : List ℕ) (simple : SimpleType) (at : ℕ) (form : OperandForm) (o : Operand) → IsLocal simple at form o → accepts mnemonic form ≡ true → takes_memory mnemonic ≡ true
memory_name mnemonic simple at form o (of_bit is) takes = memory_taken mnemonic forms.Bit (inl refl) takes
memory_name mnemonic simple at form o (of_bytes unit h) takes = memory_taken mnemonic forms.Value (inr refl) takes

-- the element that stands k elements above the first is found
above_again : (low here count k : ℕ) (n : SignedNumber) → here ≡ low + k → k < count → element_above low here count n ≡ Ok k
above_again low here count k n is within =
    let from : low ≤ here = omega (arith, is) in
    let so : here - low ≡ k = omega (arith, is) in
    let few : here - low < count = omega (arith, so, within) in
    rw (le-ltb here low from, lt-leb count (here - low) few, so) refl

pub index_again : (place : Place) (n : SignedNumber) (k : ℕ) → IsElement place n.negative n.magnitude k → index_of place.shape n ≡ Ok k
index_again place n k h =
    let here : rank (int_value n) ≡ rank place.shape.low + k = rank_below n.negative n.magnitude n.first n.last h.range ∙ h.above in
    rw (h.is_array, h.range) (above_again (rank place.shape.low) (rank (int_value n)) place.shape.count k n here h.within)

module _ (text : List ℕ) (temps : Section) (mnemonic : List ℕ) where
  no_bracket : (rest : List Token) → goes_on text rest ≡ false → maybe_sign_at text (codes "[") rest ≡ None
  no_bracket [] h = refl
  no_bracket (t ∷ ts) h = rw ((or_parts (is_sign text t (codes ".")) (is_sign text t (codes "[")) h).1) refl

  name_kind : (kind : TokenKind) (t : Token) (rest tokens : List Token) (r : Operand × Token × List Token) → kind ≡ kinds.Local → local_operand text temps mnemonic t rest ≡ Ok r → kind_operand kind text temps mnemonic t rest tokens ≡ Ok r
  name_kind kinds.Local t rest tokens r is e = e
  name_kind _ t rest tokens r is e = absurd cc

  no_real_name : (t : Token) (rest : List Token) → t.kind ≡ kinds.Local → is_real text (t ∷ rest) ≡ false
  no_real_name t rest is = rw is refl

  -- by what stands behind the name
  name_by : (place : Place) (form : OperandForm) (t : Token) (rest : List Token) (r : Operand × Token × List Token) → IsName text temps place t → takes_memory mnemonic ≡ true → local_form place.shape.simple ≡ Some form → accepts mnemonic form ≡ true → element_operand text place t rest ≡ Ok r → operand_at text temps mnemonic (t ∷ rest) ≡ Ok r
  unfolding operand_at variable_operand
  name_by place form t rest r name memory is takes e =
      rw (no_real_name t rest name.kind)
      (name_kind t.kind t rest (t ∷ rest) r name.kind (rw (memory, name.declared, is, takes) e))

  pub name_read : (place : Place) (form : OperandForm) (o : Operand) (t : Token) (rest : List Token) → IsName text temps place t → place.shape.is_array ≡ false → IsLocal place.shape.simple place.first_bit form o → accepts mnemonic form ≡ true → goes_on text rest ≡ false → operand_at text temps mnemonic (t ∷ rest) ≡ Ok (o, t, rest)
  name_read place form o t rest name single h takes stops =
      let s = stands place.shape.simple place.first_bit form o h in
      let at : element_bit place 0 ≡ place.first_bit = omega arith in
      name_by place form t rest (o, t, rest) name (memory_name mnemonic place.shape.simple place.first_bit form o h takes) s.form takes
      (rw (no_bracket rest stops, single, at, s.operand) refl)

  indexed_again : (place : Place) (minus : Bool) (n k : ℕ) (ts rest : List Token) (closing : Token) → IsInteger text minus n ts → IsElement place minus n k → IsSign text (codes "]") closing → indexed_at text place.shape (ts ++ (closing ∷ rest)) ≡ Ok (k, closing, rest)
  unfolding indexed_at
  indexed_again place minus n k ts rest closing integer element sign =
      let i = integer_again text minus n ts (closing ∷ rest) integer in
      rw (i.read closing, index_again place (record { negative = minus; magnitude = n; first = i.first; last = last_of closing ts }) k element, sign) refl

  bracket_again : (opening : Token) (ts : List Token) → IsSign text (codes "[") opening → maybe_sign_at text (codes "[") (opening ∷ ts) ≡ Some (opening, ts)
  bracket_again opening ts h = rw h refl

  pub element_read : (place : Place) (minus : Bool) (n k : ℕ) (form : OperandForm) (o : Operand) (t opening closing l : Token) (ts rest : List Token) → IsName text temps place t → IsSign text (codes "[") opening → IsInteger text minus n ts → IsElement place minus n k → IsSign text (codes "]") closing → IsLocal place.shape.simple (place.first_bit + k * bits_of place.shape.simple) form o → accepts mnemonic form ≡ true → operand_at text temps mnemonic (t ∷ opening ∷ ((ts ++ closing ∷ []) ++ rest)) ≡ Ok (o, last_of l (t ∷ opening ∷ (ts ++ closing ∷ [])), rest)
  element_read place minus n k form o t opening closing l ts rest name opens integer element closes h takes =
      let s = stands place.shape.simple (element_bit place k) form o h in
      let after : (ts ++ closing ∷ []) ++ rest ≡ ts ++ (closing ∷ rest) = append_assoc ts (closing ∷ []) rest in
      rw (after, last_closing opening closing ts)
      (name_by place form t (opening ∷ (ts ++ (closing ∷ rest))) (o, closing, rest) name (memory_name mnemonic place.shape.simple (element_bit place k) form o h takes) s.form takes
      (rw (bracket_again opening (ts ++ (closing ∷ rest)) opens, indexed_again place minus n k ts rest closing integer element closes, s.operand) refl))
