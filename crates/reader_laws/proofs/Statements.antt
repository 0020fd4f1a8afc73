-- What is read as a statement is spelled so.
use Rattle.std.proofs.Common.{◌≡◌, ℕ, List, [], ◌∷◌, ◌++◌, refl, subst, ap, sym, ◌∙◌, Bool, true, false, cond, get_or, append_assoc}
use Rattle.std.specs.Prelude.{Ok, Option, Some, None, ◌&&◌, ◌==◌, slice_get, codes}
use Rattle.std.specs.Str.{bytes_eq}
use Rattle.std.proofs.lemmas.Bool.{and_parts}
use Rattle.std.proofs.lemmas.Slice.Eq.{bytes_eq-Decides}
use Rattle.std.proofs.lemmas.Option.{slice_get-get_or}
use Rattle.std.proofs.lemmas.List.Quantifiers.{position-Some}
use Rattle.instruction_set.specs.declared.operands.OperandKind.TheVariants as operand_kinds
use Rattle.instruction_set.specs.declared.operation.Operation.TheVariants as operations
use Rattle.instruction_set.specs.declared.table.InstructionRow.{InstructionRow}
use Rattle.s7_base.specs.declared.statement.Statement.{Statement}
use Rattle.instruction_set.specs.InstructionSet.{instruction_set}
use Rattle.s7_base.specs.Operands.{allows}
use Rattle.stl_lex.specs.Bytes.{spells, letters_of}
use Rattle.stl_lex.specs.declared.token.Token.{Token}
use Rattle.stl_decl.specs.declared.fault.FaultKind.TheVariants.{MissingSemicolon, OutOfScope}
use Rattle.stl_decl.specs.Layout.{Section}
use Rattle.stl_decl.specs.Steps.{spelling, fault_at, is_sign, semicolon_at}
use Rattle.stl_reader.specs.declared.mnemonics.RefusedInstruction.{RefusedInstruction}
use Rattle.stl_reader.specs.declared.mnemonics.Meaning.{Meaning}
use Rattle.stl_reader.specs.declared.mnemonics.Meaning.TheVariants.{Mnemonic, Refused}
use Rattle.stl_reader.specs.declared.addresses.Operand.{Operand}
use Rattle.stl_reader.specs.Addresses.{call}
use Rattle.stl_reader.specs.Mnemonics.{row_named, refused_named, meaning_by, meaning_of, with_rest, one_at, longer_of, run_at, mnemonic_by, mnemonic_at}
use Rattle.stl_reader.specs.Statements.{operand_at, wants_operand, no_operand, argument_at, stored, operation_of, operation_by, operation_at, first_of, closing_at, target_of, statement_at}
use Rattle.stl_reader.proofs.Language.{bind_ok, operation_allows}
use Rattle.reader_laws.specs.Tokens.{IsSign}
use Rattle.reader_laws.specs.Statements.{IsMnemonic, in_one, in_two, is_longest, IsArgument, of_operand, of_nothing, of_row, IsStatementRead}
use Rattle.reader_laws.proofs.Steps.{if_ok, if_not, same_ok}
use Rattle.reader_laws.proofs.Rows.{found}
use Rattle.reader_laws.proofs.Takes.{operand_takes}
use Rattle.reader_laws.proofs.Mnemonics.{no_instruction}

row_spells : (word : List ℕ) (row : InstructionRow) → row_named word ≡ Some row → spells (letters_of row.mnemonic) word ≡ true
unfolding row_named
row_spells word row e = (found (λ (r : InstructionRow). spells (letters_of r.mnemonic) word) instruction_set row e).1

meaning_spells : (word mnemonic : List ℕ) → meaning_of word ≡ Some (Mnemonic mnemonic) → spells (letters_of mnemonic) word ≡ true
meaning_spells word mnemonic e = by (row_named word) (refused_named word) refl e
  where
    by : (o : Option InstructionRow) (r : Option RefusedInstruction) → row_named word ≡ o → meaning_by o r ≡ Some (Mnemonic mnemonic) → spells (letters_of mnemonic) word ≡ true
    by (Some row) r is e =
        let same : row.mnemonic ≡ mnemonic = cc in
        ap (λ m. spells (letters_of m) word) (sym same) ∙ row_spells word row is
    by None (Some row) is e = absurd cc
    by None None is e = absurd cc

-- a mnemonic was taken
record TakesMnemonic (text : List ℕ) (tokens : List Token) (x : List ℕ × Token × List Token) : Type 0 where
  front : List Token
  cut : tokens ≡ front ++ x.2
  spelled : IsMnemonic text x.0 front
  longest : is_longest text front x.2 ≡ true

module _ (text : List ℕ) where
  meant_takes : (first : Token) (o : Option Meaning) (front : List Token) (last : Token) (tokens rest : List Token) (x : List ℕ × Token × List Token) → tokens ≡ front ++ rest → ((mnemonic : List ℕ) → o ≡ Some (Mnemonic mnemonic) → IsMnemonic text mnemonic front) → is_longest text front rest ≡ true → mnemonic_by first (with_rest o last rest) ≡ Ok x → TakesMnemonic text tokens x
  meant_takes first None front last tokens rest x cut make long e = absurd cc
  meant_takes first (Some (Refused fault)) front last tokens rest x cut make long e = absurd cc
  meant_takes first (Some (Mnemonic m)) front last tokens rest x cut make long e =
      subst (TakesMnemonic text tokens) (same_ok (m, last, rest) x e) (record { front = front; cut = cut; spelled = make m refl; longest = long })

  one_takes : (t : Token) (ts : List Token) (x : List ℕ × Token × List Token) → is_longest text (t ∷ []) ts ≡ true → mnemonic_by t (one_at text (t ∷ ts)) ≡ Ok x → TakesMnemonic text (t ∷ ts) x
  one_takes t ts x long e = meant_takes t (meaning_of (spelling text t)) (t ∷ []) t (t ∷ ts) ts x refl (λ m is. in_one t (meaning_spells (spelling text t) m is)) long e

  mnemonic_takes : (tokens : List Token) (x : List ℕ × Token × List Token) → mnemonic_at text tokens ≡ Ok x → TakesMnemonic text tokens x
  unfolding run_at
  mnemonic_takes [] x e = absurd cc
  mnemonic_takes (t ∷ []) x e = one_takes t [] x refl e
  mnemonic_takes (t ∷ u ∷ ts) x e = by (t.to == u.from) refl (meaning_of (spelling text (record t { to = u.to }))) refl e
    where
      by : (b : Bool) → (t.to == u.from) ≡ b → (o : Option Meaning) → meaning_of (spelling text (record t { to = u.to })) ≡ o → mnemonic_by t (longer_of (cond b (with_rest o u ts) None) (one_at text (t ∷ u ∷ ts))) ≡ Ok x → TakesMnemonic text (t ∷ u ∷ ts) x
      by false near o is e = one_takes t (u ∷ ts) x (rw near refl) e
      by true near None is e = one_takes t (u ∷ ts) x (rw (near, no_instruction (spelling text (record t { to = u.to })) is) refl) e
      by true near (Some meaning) is e =
          meant_takes t (Some meaning) (t ∷ u ∷ []) u (t ∷ u ∷ ts) ts x refl (λ m h. in_two t u near (meaning_spells (spelling text (record t { to = u.to })) m (is ∙ h))) refl e

any_row : InstructionRow
any_row = record { operation = operations.Close; mnemonic = []; operand = operand_kinds.Nothing }

-- the row of the operation that was found
record HasRow (mnemonic : List ℕ) (n : ℕ) : Type 0 where
  row : InstructionRow
  there : slice_get instruction_set n ≡ Some row
  same : row.mnemonic ≡ mnemonic

row_found : (mnemonic : List ℕ) (locals : ℕ) (o : Operand) (n : ℕ) → operation_of mnemonic locals o ≡ Some n → HasRow mnemonic n
unfolding operation_of
row_found mnemonic locals o n e =
    let p = position-Some (λ row. bytes_eq row.mnemonic mnemonic && allows row.operand locals (stored 0 o)) instruction_set n any_row e in
    let row = get_or instruction_set n any_row in
    let parts = and_parts (bytes_eq row.mnemonic mnemonic) (allows row.operand locals (stored 0 o)) p.1 in
    record { row = row; there = slice_get-get_or instruction_set n any_row p.0; same = (bytes_eq-Decides row.mnemonic mnemonic).0 parts.0 }

operation_found : (o : Option ℕ) (first : Token) (n : ℕ) → operation_by o first ≡ Ok n → o ≡ Some n
operation_found (Some m) first n e = let same : m ≡ n = cc in ap (λ k. Some k) same
operation_found None first n e = absurd cc

-- an operand or nothing was taken
record TakesArgument (text : List ℕ) (temps : Section) (mnemonic : List ℕ) (tokens : List Token) (x : Operand × Token × List Token) : Type 0 where
  front : List Token
  cut : tokens ≡ front ++ x.2
  spelled : IsArgument text temps mnemonic x.0 front

argument_takes : (text : List ℕ) (temps : Section) (mnemonic : List ℕ) (last : Token) (tokens : List Token) (x : Operand × Token × List Token) → argument_at text temps mnemonic last tokens ≡ Ok x → TakesArgument text temps mnemonic tokens x
unfolding argument_at
argument_takes text temps mnemonic last tokens x e = by (wants_operand text mnemonic tokens) e
  where
    by : (b : Bool) → cond b (operand_at text temps mnemonic tokens) (Ok (no_operand, last, tokens)) ≡ Ok x → TakesArgument text temps mnemonic tokens x
    by true e =
        let h = operand_takes text temps mnemonic tokens x e in
        record { front = h.front; cut = h.cut; spelled = of_operand h.form x.0 h.front h.takes h.spelled }
    by false e =
        subst (TakesArgument text temps mnemonic tokens) (same_ok (no_operand, last, tokens) x e) (record { front = []; cut = refl; spelled = of_nothing })

-- the `;` was taken
record TakesClosing (text : List ℕ) (tokens rest : List Token) : Type 0 where
  semicolon : Token
  cut : tokens ≡ semicolon ∷ rest
  sign : IsSign text (codes ";") semicolon

closing_takes : (text mnemonic : List ℕ) (last : Token) (tokens rest : List Token) → closing_at text mnemonic last tokens ≡ Ok rest → TakesClosing text tokens rest
closing_takes text mnemonic last [] rest e = absurd cc
closing_takes text mnemonic last (t ∷ ts) rest e =
    let p = if_not (bytes_eq mnemonic call && is_sign text t (codes "(")) (fault_at OutOfScope t) (semicolon_at text last (t ∷ ts)) rest e in
    let q = if_ok (is_sign text t (codes ";")) (Ok ts) (fault_at MissingSemicolon last) rest p.1 in
    subst (TakesClosing text (t ∷ ts)) (same_ok ts rest q.1) (record { semicolon = t; cut = refl; sign = q.0 })

-- only the token behind a mnemonic says whether it goes on
pub next_only : (text : List ℕ) (m ts rest : List Token) (s : Token) → is_longest text m (ts ++ (s ∷ rest)) ≡ is_longest text m (ts ++ s ∷ [])
next_only text [] ts rest s = refl
next_only text (t ∷ []) [] rest s = refl
next_only text (t ∷ []) (u ∷ us) rest s = refl
next_only text (t ∷ v ∷ vs) ts rest s = refl

pub statement_takes : (text : List ℕ) (locals : ℕ) (temps : Section) (tokens : List Token) (x : Statement × Option (List ℕ) × List Token) → statement_at text locals temps tokens ≡ Ok x → IsStatementRead text locals temps tokens x
unfolding statement_at
statement_takes text locals temps tokens x e =
    let m = bind_ok (mnemonic_at text tokens) _ x e in
    let a = bind_ok (argument_at text temps m.0.0 m.0.1 m.0.2) _ x m.2 in
    let op = bind_ok (operation_at m.0.0 locals a.0.0 (first_of m.0.1 m.0.2)) _ x a.2 in
    let r = bind_ok (closing_at text m.0.0 a.0.1 a.0.2) _ x op.2 in
    let same : (stored op.0 a.0.0, target_of (stored op.0 a.0.0) a.0.0.name, r.0) ≡ x = same_ok _ x r.2 in
    let mt = mnemonic_takes text tokens m.0 m.1 in
    let at = argument_takes text temps m.0.0 m.0.1 m.0.2 a.0 a.1 in
    let ct = closing_takes text m.0.0 a.0.1 a.0.2 r.0 r.1 in
    let found_op = operation_found (operation_of m.0.0 locals a.0.0) (first_of m.0.1 m.0.2) op.0 op.1 in
    let row = row_found m.0.0 locals a.0.0 op.0 found_op in
    let behind : m.0.2 ≡ at.front ++ (ct.semicolon ∷ r.0) = at.cut ∙ ap (λ ts. at.front ++ ts) ct.cut in
    subst (IsStatementRead text locals temps tokens) same (record {
      front = mt.front ++ (at.front ++ ct.semicolon ∷ []);
      cut = mt.cut ∙ (ap (λ ts. mt.front ++ ts) (at.cut ∙ (ap (λ ts. at.front ++ ts) ct.cut ∙ sym (append_assoc at.front (ct.semicolon ∷ []) r.0))) ∙ sym (append_assoc mt.front (at.front ++ ct.semicolon ∷ []) r.0));
      spelled = of_row op.0 row.row a.0.0 mt.front at.front ct.semicolon row.there
          (subst (λ w. IsMnemonic text w mt.front) (sym row.same) mt.spelled)
          (sym (next_only text mt.front at.front r.0 ct.semicolon) ∙ (ap (is_longest text mt.front) (sym behind) ∙ mt.longest))
          (subst (λ w. IsArgument text temps w a.0.0 at.front) (sym row.same) at.spelled)
          (operation_allows m.0.0 locals a.0.0 op.0 found_op)
          ct.sign;
    })
