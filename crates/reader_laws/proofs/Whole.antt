-- What is spelled as a statement is read as that statement.
use Rattle.std.proofs.Common.{◌≡◌, ◌<◌, ℕ, zero, suc, List, [], ◌∷◌, ◌++◌, refl, ap, sym, ◌∙◌, Bool, true, false, ◌&&◌, ◌||◌, inl, inr, arith, append_assoc, length}
use Rattle.std.specs.Prelude.{Ok, Some, not, slice_get, codes}
use Rattle.std.specs.List.{list_all, position, position_or_len}
use Rattle.std.specs.Str.{bytes_eq}
use Rattle.std.proofs.lemmas.Bool.{and_parts, and_from, and_right, or_from, lt-ltb, not_from_true, not_from_false, false_from_ne_true}
use Rattle.std.proofs.lemmas.Slice.Eq.{bytes_eq-Decides}
use Rattle.instruction_set.specs.declared.operands.OperandKind.{OperandKind}
use Rattle.instruction_set.specs.declared.operands.OperandKind.TheVariants as kinds
use Rattle.instruction_set.specs.declared.table.InstructionRow.{InstructionRow}
use Rattle.instruction_set.specs.InstructionSet.{instruction_set}
use Rattle.instruction_set.specs.Rows.{row_of}
use Rattle.s7_base.specs.declared.statement.Statement.{Statement}
use Rattle.s7_base.specs.Operands.{allows}
use Rattle.s7_base.specs.Statements.{is_of_row, is_statement}
use Rattle.stl_lex.specs.declared.token.Token.{Token}
use Rattle.stl_decl.specs.Layout.{Section}
use Rattle.stl_decl.specs.Steps.{is_sign}
use Rattle.stl_reader.specs.declared.addresses.Operand.{Operand}
use Rattle.stl_reader.specs.Addresses.{call}
use Rattle.stl_reader.specs.Forms.{takes_none, may_be_alone, takes_operand}
use Rattle.stl_reader.specs.Statements.{begins_operand, wants_operand, no_operand, argument_at, stored, operation_of, closing_at, statement_at}
use Rattle.reader_laws.specs.Tokens.{IsOneOf, IsSign}
use Rattle.reader_laws.specs.Operands.{last_of}
use Rattle.reader_laws.specs.Spelled.{goes_on}
use Rattle.reader_laws.specs.Statements.{IsArgument, of_operand, of_nothing, of_row, is_longest, StatementsSpelledAreRead}
use Rattle.reader_laws.proofs.Rows.{each}
use Rattle.reader_laws.proofs.Figures.{other_sign}
use Rattle.reader_laws.proofs.Tables.{row_apart, rows_apart, table_apart, rows_disjoint}
use Rattle.reader_laws.proofs.Read.{operand_read}
use Rattle.reader_laws.proofs.Begins.{wants, row_alone, semicolon_begins}
use Rattle.reader_laws.proofs.Mnemonics.{mnemonic_again}
use Rattle.reader_laws.proofs.Statements.{next_only}

-- what a kind allows doesn't depend on the operation
alike : (kind : OperandKind) (locals op : ℕ) (o : Operand) → allows kind locals (stored 0 o) ≡ allows kind locals (stored op o)
alike (kinds.UpTo most) locals op o = refl
alike (kinds.Exactly number) locals op o = refl
alike (kinds.AtMost most) locals op o = refl
alike (kinds.SystemFunction number) locals op o = refl
alike _ locals op o = refl

-- a kind that allows nothing as an operand may be left out
none_allowed : (kind : OperandKind) (locals op : ℕ) → allows kind locals (stored op no_operand) ≡ true → takes_none kind ≡ true
none_allowed kinds.Nothing locals op e = refl
none_allowed (kinds.AtMost most) locals op e = refl
none_allowed kinds.Mask locals op e = refl
none_allowed (kinds.UpTo most) locals op e = absurd cc
none_allowed (kinds.Exactly number) locals op e = absurd cc
none_allowed (kinds.SystemFunction number) locals op e = absurd cc
none_allowed _ locals op e = absurd cc

there : {A : Type 0} (xs : List A) (n : ℕ) (x : A) → slice_get xs n ≡ Some x → IsOneOf x xs
there [] n x e = absurd cc
there (y ∷ ys) zero x e = let same : y ≡ x = cc in inl same
there (y ∷ ys) (suc n) x e = inr (there ys n x e)

within : {A : Type 0} (xs : List A) (n : ℕ) (x : A) → slice_get xs n ≡ Some x → n < length xs
within [] n x e = absurd cc
within (y ∷ ys) zero x e = omega arith
within (y ∷ ys) (suc n) x e = let h = within ys n x e in omega (arith, h)

module _ (mnemonic : List ℕ) (locals : ℕ) (s : Statement) where
  abbrev suits : InstructionRow → Bool
  suits row = bytes_eq row.mnemonic mnemonic && allows row.operand locals s

  -- an earlier row doesn't suit
  earlier : (r row : InstructionRow) → row_apart r row ≡ true → suits row ≡ true → suits r ≡ false
  earlier r row apart e = false_from_ne_true (suits r) (λ h.
      let a = and_parts (bytes_eq r.mnemonic mnemonic) (allows r.operand locals s) h in
      let b = and_parts (bytes_eq row.mnemonic mnemonic) (allows row.operand locals s) e in
      let same : r.mnemonic ≡ row.mnemonic = (bytes_eq-Decides r.mnemonic mnemonic).0 a.0 ∙ sym ((bytes_eq-Decides row.mnemonic mnemonic).0 b.0) in
      rows_disjoint locals s r row apart same a.1 b.1)

  place_of : (rows : List InstructionRow) (n : ℕ) (row : InstructionRow) → rows_apart rows ≡ true → slice_get rows n ≡ Some row → suits row ≡ true → position_or_len suits rows ≡ n
  unfolding rows_apart
  place_of [] n row apart e h = absurd cc
  place_of (r ∷ rs) zero row apart e h =
      let same : r ≡ row = cc in
      let here : not (suits r) ≡ false = not_from_true (suits r) (ap suits same ∙ h) in
      rw here refl
  place_of (r ∷ rs) (suc n) row apart e h =
      let parts = and_parts (list_all (row_apart r) rs) (rows_apart rs) apart in
      let later : not (suits r) ≡ true = not_from_false (suits r) (earlier r row (each (row_apart r) rs row parts.0 (there rs n row e)) h) in
      let rest = place_of rs n row parts.1 e h in
      rw (later, rest) (omega arith)

  pub position_is : (n : ℕ) (row : InstructionRow) → slice_get instruction_set n ≡ Some row → suits row ≡ true → position suits instruction_set ≡ Some n
  position_is n row e h =
      let at = place_of instruction_set n row table_apart e h in
      let inside = lt-ltb n (length instruction_set) (within instruction_set n row e) in
      rw (at, inside) refl

operation_again : (row : InstructionRow) (locals op : ℕ) (o : Operand) → slice_get instruction_set op ≡ Some row → is_statement locals (stored op o) ≡ true → operation_of row.mnemonic locals o ≡ Some op
unfolding operation_of row_of
operation_again row locals op o e language =
    let allowed : allows row.operand locals (stored op o) ≡ true = ap (λ r. is_of_row r locals (stored op o)) (sym e) ∙ language in
    position_is row.mnemonic locals (stored 0 o) op row e
    (and_from (bytes_eq row.mnemonic row.mnemonic) (allows row.operand locals (stored 0 o)) ((bytes_eq-Decides row.mnemonic row.mnemonic).1 refl) (alike row.operand locals op o ∙ allowed))

-- the operand, or none, is read
record ReadsArgument (text : List ℕ) (temps : Section) (mnemonic : List ℕ) (last : Token) (o : Operand) (front rest : List Token) : Type 0 where
  end : Token
  read : argument_at text temps mnemonic last (front ++ rest) ≡ Ok (o, end, rest)

module _ (text : List ℕ) (temps : Section) where
  semicolon_stops : (s : Token) (rest : List Token) → IsSign text (codes ";") s → goes_on text (s ∷ rest) ≡ false
  semicolon_stops s rest sign = or_from (is_sign text s (codes ".")) (is_sign text s (codes "[")) (other_sign text (codes ";") (codes ".") s sign refl) (other_sign text (codes ";") (codes "[") s sign refl)

  nothing_wanted : (mnemonic : List ℕ) (s : Token) (rest : List Token) → may_be_alone mnemonic ≡ true → IsSign text (codes ";") s → wants_operand text mnemonic (s ∷ rest) ≡ false
  nothing_wanted mnemonic s rest alone sign =
      and_right (takes_operand mnemonic) (not (may_be_alone mnemonic) || begins_operand text (s ∷ rest))
      (or_from (not (may_be_alone mnemonic)) (begins_operand text (s ∷ rest)) (not_from_true (may_be_alone mnemonic) alone) (semicolon_begins text s rest sign))

  argument_again : (row : InstructionRow) (locals op : ℕ) (o : Operand) (front rest : List Token) (last s : Token) → slice_get instruction_set op ≡ Some row → is_statement locals (stored op o) ≡ true → IsArgument text temps row.mnemonic o front → IsSign text (codes ";") s → ReadsArgument text temps row.mnemonic last o front (s ∷ rest)
  unfolding argument_at row_of
  argument_again row locals op o front rest last s e language (of_operand form p ts takes h) sign =
      record { end = last_of last ts; read = rw (wants text temps row.mnemonic form p ts (s ∷ rest) h takes) (operand_read text temps row.mnemonic form p ts (s ∷ rest) last h takes (semicolon_stops s rest sign)) }
  argument_again row locals op o front rest last s e language of_nothing sign =
      let allowed : allows row.operand locals (stored op no_operand) ≡ true = ap (λ r. is_of_row r locals (stored op no_operand)) (sym e) ∙ language in
      let alone = row_alone row (there instruction_set op row e) (none_allowed row.operand locals op allowed) in
      record { end = last; read = rw (nothing_wanted row.mnemonic s rest alone sign) refl }

  closing_again : (mnemonic : List ℕ) (last s : Token) (rest : List Token) → IsSign text (codes ";") s → closing_at text mnemonic last (s ∷ rest) ≡ Ok rest
  closing_again mnemonic last s rest sign =
      rw (and_right (bytes_eq mnemonic call) (is_sign text s (codes "(")) (other_sign text (codes ";") (codes "(") s sign refl), sign) refl

pub statement_read : StatementsSpelledAreRead
unfolding statement_at
statement_read text locals temps s target front rest (of_row op row o m ts semicolon e spelled longest argument language sign) =
    let long : is_longest text m (ts ++ (semicolon ∷ rest)) ≡ true = next_only text m ts rest semicolon ∙ longest in
    let reads = mnemonic_again text row m (ts ++ (semicolon ∷ rest)) (there instruction_set op row e) spelled long in
    let reads_argument = argument_again text temps row locals op o ts rest reads.last semicolon e language argument sign in
    let cut : (m ++ (ts ++ semicolon ∷ [])) ++ rest ≡ m ++ (ts ++ (semicolon ∷ rest)) =
    append_assoc m (ts ++ semicolon ∷ []) rest ∙ ap (λ r. m ++ r) (append_assoc ts (semicolon ∷ []) rest) in
    rw (cut, reads.read, reads_argument.read, operation_again row locals op o e language, closing_again text temps row.mnemonic reads_argument.end semicolon rest sign) refl
