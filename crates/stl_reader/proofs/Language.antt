-- What is read as a statement is one of the language.
use Rattle.std.proofs.Common.{◌≡◌, ℕ, List, [], refl, subst, ap, sym, ◌∙◌, Bool, true, get_or, ◌&&◌}
use Rattle.std.specs.Prelude.{Result, Ok, Err, Option, Some, None, slice_get}
use Rattle.std.specs.List.{position}
use Rattle.std.specs.Str.{bytes_eq}
use Rattle.std.proofs.lemmas.Bool.{and_parts}
use Rattle.std.proofs.lemmas.Option.{slice_get-get_or}
use Rattle.std.proofs.lemmas.List.Quantifiers.{position-Some}
use Rattle.instruction_set.specs.declared.operands.OperandKind.{OperandKind}
use Rattle.instruction_set.specs.declared.operands.OperandKind.TheVariants as kinds
use Rattle.instruction_set.specs.declared.operation.Operation.TheVariants as operations
use Rattle.instruction_set.specs.declared.table.InstructionRow.{InstructionRow}
use Rattle.instruction_set.specs.InstructionSet.{instruction_set}
use Rattle.s7_base.specs.declared.statement.Statement.{Statement}
use Rattle.s7_base.specs.Operands.{allows}
use Rattle.instruction_set.specs.Rows.{row_of}
use Rattle.s7_base.specs.Statements.{is_of_row, is_statement}
use Rattle.stl_lex.specs.declared.token.Token.{Token}
use Rattle.stl_decl.specs.declared.fault.Fault.{Fault}
use Rattle.stl_decl.specs.Steps.{◌>>=◌}
use Rattle.stl_decl.specs.Layout.{Section}
use Rattle.stl_reader.specs.declared.addresses.Operand.{Operand}
use Rattle.stl_reader.specs.Mnemonics.{mnemonic_at}
use Rattle.stl_reader.specs.Statements.{argument_at, stored, operation_of, operation_by, operation_at, first_of, closing_at, target_of, statement_at}

pub bind_ok : {A B : Type 0} (r : Result A Fault) (f : A → Result B Fault) (y : B) → (r >>= f) ≡ Ok y → (x : A) × (r ≡ Ok x) × (f x ≡ Ok y)
bind_ok (Ok x) f y e = (x, refl, e)
bind_ok (Err f) k y e = absurd cc

-- what a kind allows doesn't depend on the operation
alike : (kind : OperandKind) (locals op : ℕ) (o : Operand) → allows kind locals (stored 0 o) ≡ allows kind locals (stored op o)
alike kinds.Nothing locals op o = refl
alike kinds.CheckedBit locals op o = refl
alike kinds.WrittenBit locals op o = refl
alike kinds.SetBit locals op o = refl
alike kinds.ResetBit locals op o = refl
alike kinds.Loaded locals op o = refl
alike kinds.Stored locals op o = refl
alike kinds.Coded locals op o = refl
alike kinds.Addend locals op o = refl
alike (kinds.UpTo most) locals op o = refl
alike (kinds.Exactly number) locals op o = refl
alike (kinds.AtMost most) locals op o = refl
alike kinds.Mask locals op o = refl
alike kinds.Target locals op o = refl
alike kinds.Timer locals op o = refl
alike kinds.Counter locals op o = refl
alike kinds.DataBlock locals op o = refl
alike kinds.InstanceBlock locals op o = refl
alike kinds.Function locals op o = refl
alike kinds.FunctionBlock locals op o = refl
alike kinds.FunctionBlockWithData locals op o = refl
alike (kinds.SystemFunction number) locals op o = refl

any_row : InstructionRow
any_row = record { operation = operations.Close; mnemonic = []; operand = kinds.Nothing }

abbrev suits_row : List ℕ → ℕ → Operand → InstructionRow → Bool
suits_row mnemonic locals o row = bytes_eq row.mnemonic mnemonic && allows row.operand locals (stored 0 o)

-- the row at the place that was found allows the operand
row_allows : (rows : List InstructionRow) (mnemonic : List ℕ) (locals : ℕ) (o : Operand) (n : ℕ) → position (suits_row mnemonic locals o) rows ≡ Some n → is_of_row (slice_get rows n) locals (stored n o) ≡ true
row_allows rows mnemonic locals o n e =
    let p = position-Some (suits_row mnemonic locals o) rows n any_row e in
    let row = get_or rows n any_row in
    let parts = and_parts (bytes_eq row.mnemonic mnemonic) (allows row.operand locals (stored 0 o)) p.1 in
    ap (λ r. is_of_row r locals (stored n o)) (slice_get-get_or rows n any_row p.0) ∙ (sym (alike row.operand locals n o) ∙ parts.1)

-- the operation that was found allows the operand
pub operation_allows : (mnemonic : List ℕ) (locals : ℕ) (o : Operand) (n : ℕ) → operation_of mnemonic locals o ≡ Some n → is_statement locals (stored n o) ≡ true
unfolding operation_of row_of
operation_allows mnemonic locals o n e = row_allows instruction_set mnemonic locals o n e

operation_takes : (found : Option ℕ) (first : Token) (n : ℕ) → operation_by found first ≡ Ok n → found ≡ Some n
operation_takes (Some m) first n e = let same : m ≡ n = cc in ap (λ k. Some k) same
operation_takes None first n e = absurd cc

-- a statement that was read, with its label where it is a jump
pub record IsRead (locals : ℕ) (s : Statement) (label : Option (List ℕ)) : Type 0 where
  pub language : is_statement locals s ≡ true
  pub name : List ℕ
  pub target : label ≡ target_of s name

pub statement_takes : (text : List ℕ) (locals : ℕ) (temps : Section) (tokens : List Token) (x : Statement × Option (List ℕ) × List Token) → statement_at text locals temps tokens ≡ Ok x → IsRead locals x.0 x.1
unfolding statement_at
statement_takes text locals temps tokens x e =
    let m = bind_ok (mnemonic_at text tokens) _ x e in
    let a = bind_ok (argument_at text temps m.0.0 m.0.1 m.0.2) _ x m.2 in
    let op = bind_ok (operation_at m.0.0 locals a.0.0 (first_of m.0.1 m.0.2)) _ x a.2 in
    let r = bind_ok (closing_at text m.0.0 a.0.1 a.0.2) _ x op.2 in
    let same : (stored op.0 a.0.0, target_of (stored op.0 a.0.0) a.0.0.name, r.0) ≡ x = let f = r.2 in cc in
    subst (λ y. IsRead locals y.0 y.1) same (record {
      language = operation_allows m.0.0 locals a.0.0 op.0 (operation_takes (operation_of m.0.0 locals a.0.0) (first_of m.0.1 m.0.2) op.0 op.1);
      name = a.0.0.name;
      target = refl;
    })
