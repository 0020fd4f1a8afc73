-- Which forms of operands stand behind one mnemonic, computed over the instruction set.
use Rattle.std.proofs.Common.{◌≡◌, ℕ, List, [], ◌∷◌, refl, ap, sym, ◌∙◌, Bool, true, false, cond, ◌&&◌, ◌||◌, ◌==◌, inl, inr}
use Rattle.std.specs.Prelude.{not}
use Rattle.std.specs.List.{list_all, list_any}
use Rattle.std.specs.Str.{bytes_eq}
use Rattle.std.proofs.lemmas.Bool.{and_parts, or_right, false_from_ne_true}
use Rattle.std.proofs.lemmas.Slice.Eq.{bytes_eq-Decides}
use Rattle.instruction_set.specs.declared.operands.OperandKind.{OperandKind}
use Rattle.instruction_set.specs.declared.operands.OperandKind.TheVariants as kinds
use Rattle.instruction_set.specs.declared.table.InstructionRow.{InstructionRow}
use Rattle.instruction_set.specs.InstructionSet.{instruction_set}
use Rattle.stl_reader.specs.declared.forms.OperandForm.{OperandForm}
use Rattle.stl_reader.specs.declared.forms.OperandForm.TheVariants as forms
use Rattle.stl_reader.specs.Forms.{takes, accepts}
use Rattle.reader_laws.specs.Tokens.{IsOneOf}
use Rattle.reader_laws.specs.Tables.{FormsStandApart}
use Rattle.reader_laws.proofs.Rows.{each}

-- one that passes is there
pub record Passes {A : Type 0} (p : A → Bool) (xs : List A) : Type 0 where
  pub one : A
  pub listed : IsOneOf one xs
  pub is : p one ≡ true

pub passing : {A : Type 0} (p : A → Bool) (xs : List A) → list_any p xs ≡ true → Passes p xs
passing p [] e = absurd cc
passing p (y ∷ ys) e = by (passing p ys) (p y) refl e
  where
    by : (list_any p ys ≡ true → Passes p ys) → (b : Bool) → p y ≡ b → (b || list_any p ys) ≡ true → Passes p (y ∷ ys)
    by later true is e = record { one = y; listed = inl refl; is = is }
    by later false is e = let h = later e in record { one = h.one; listed = inr h.listed; is = h.is }

pub passes_any : {A : Type 0} (p : A → Bool) (xs : List A) (x : A) → IsOneOf x xs → p x ≡ true → list_any p xs ≡ true
passes_any p [] x h e = absurd h
passes_any p (y ∷ ys) x (inl is) e = ap (λ b. b || list_any p ys) (ap p is ∙ e)
passes_any p (y ∷ ys) x (inr h) e = or_right (p y) (list_any p ys) (passes_any p ys x h e)

-- the row by which a mnemonic takes a form
pub record TakesForm (mnemonic : List ℕ) (form : OperandForm) : Type 0 where
  pub row : InstructionRow
  pub listed : IsOneOf row instruction_set
  pub same : row.mnemonic ≡ mnemonic
  pub takes : takes row.operand form ≡ true

pub row_taking : (mnemonic : List ℕ) (form : OperandForm) → accepts mnemonic form ≡ true → TakesForm mnemonic form
unfolding accepts
row_taking mnemonic form e =
    let h = passing (λ (row : InstructionRow). bytes_eq row.mnemonic mnemonic && takes row.operand form) instruction_set e in
    let parts = and_parts (bytes_eq h.one.mnemonic mnemonic) (takes h.one.operand form) h.is in
    record { row = h.one; listed = h.listed; same = (bytes_eq-Decides h.one.mnemonic mnemonic).0 parts.0; takes = parts.1 }

-- kinds of rows with one mnemonic: a jump's is alone, and no FB is called both alone and with a data block
unfoldable pub parted : OperandKind → OperandKind → Bool
parted kinds.Target kinds.Target = true
parted kinds.Target _ = false
parted kinds.FunctionBlock kinds.FunctionBlockWithData = false
parted _ _ = true

pair_parted : InstructionRow → InstructionRow → Bool
pair_parted a b = not (bytes_eq a.mnemonic b.mnemonic) || parted a.operand b.operand

parted_from : InstructionRow → Bool
parted_from a = list_all (pair_parted a) instruction_set

all_parted : list_all parted_from instruction_set ≡ true
unfolding parted_from pair_parted parted
all_parted = refl

pub right_of : (a b : Bool) → a ≡ true → (not a || b) ≡ true → b ≡ true
right_of true b is e = e
right_of false b is e = absurd cc

pub kinds_parted : (a b : InstructionRow) → IsOneOf a instruction_set → IsOneOf b instruction_set → a.mnemonic ≡ b.mnemonic → parted a.operand b.operand ≡ true
unfolding parted_from pair_parted
kinds_parted a b ha hb same =
    let all = each parted_from instruction_set a all_parted ha in
    let pair = each (pair_parted a) instruction_set b all hb in
    right_of (bytes_eq a.mnemonic b.mnemonic) (parted a.operand b.operand) ((bytes_eq-Decides a.mnemonic b.mnemonic).1 same) pair

pub neither : (b : Bool) → cond b false false ≡ true → ⊥
neither true e = cc
neither false e = cc

label_only : (k l : OperandKind) (form : OperandForm) → takes k forms.Label ≡ true → parted k l ≡ true → takes l form ≡ true → form ≡ forms.Label
unfolding parted
label_only kinds.Target kinds.Target forms.Label h p e = refl
label_only kinds.Target kinds.Target _ h p e = absurd cc
label_only kinds.Target _ form h p e = absurd cc
label_only (kinds.AtMost most) l form h p e = absurd (neither (most == 65535) h)
label_only _ l form h p e = absurd cc

pub label_alone : (mnemonic : List ℕ) (form : OperandForm) → accepts mnemonic forms.Label ≡ true → accepts mnemonic form ≡ true → form ≡ forms.Label
label_alone mnemonic form h e =
    let a = row_taking mnemonic forms.Label h in
    let b = row_taking mnemonic form e in
    label_only a.row.operand b.row.operand form a.takes (kinds_parted a.row b.row a.listed b.listed (a.same ∙ sym b.same)) b.takes

block_only : (k l : OperandKind) → takes k forms.FunctionBlock ≡ true → takes l forms.FunctionBlockWithData ≡ true → parted k l ≡ true → ⊥
unfolding parted
block_only kinds.FunctionBlock kinds.FunctionBlockWithData h e p = cc
block_only kinds.FunctionBlock (kinds.AtMost most) h e p = neither (most == 65535) e
block_only kinds.FunctionBlock _ h e p = cc
block_only (kinds.AtMost most) l h e p = neither (most == 65535) h
block_only _ l h e p = cc

pub block_alone : (mnemonic : List ℕ) → accepts mnemonic forms.FunctionBlock ≡ true → accepts mnemonic forms.FunctionBlockWithData ≡ false
block_alone mnemonic h = false_from_ne_true (accepts mnemonic forms.FunctionBlockWithData) (λ e.
    let a = row_taking mnemonic forms.FunctionBlock h in
    let b = row_taking mnemonic forms.FunctionBlockWithData e in
    block_only a.row.operand b.row.operand a.takes b.takes (kinds_parted a.row b.row a.listed b.listed (a.same ∙ sym b.same)))

-- a row of a system function has a mnemonic that takes functions
calls_too : InstructionRow → Bool
calls_too row = not (takes row.operand forms.SystemFunction) || accepts row.mnemonic forms.Function

all_call : list_all calls_too instruction_set ≡ true
unfolding calls_too accepts
all_call = refl

pub system_calls : (mnemonic : List ℕ) → accepts mnemonic forms.SystemFunction ≡ true → accepts mnemonic forms.Function ≡ true
unfolding calls_too
system_calls mnemonic h =
    let a = row_taking mnemonic forms.SystemFunction h in
    let calls = right_of (takes a.row.operand forms.SystemFunction) (accepts a.row.mnemonic forms.Function) a.takes (each calls_too instruction_set a.row all_call a.listed) in
    ap (λ m. accepts m forms.Function) (sym a.same) ∙ calls

pub forms_apart : FormsStandApart
forms_apart = record { label = label_alone; block = block_alone; system = system_calls }

-- behind a mnemonic that takes another form stands no label
pub no_label : (mnemonic : List ℕ) (form : OperandForm) → (form ≡ forms.Label → ⊥) → accepts mnemonic form ≡ true → accepts mnemonic forms.Label ≡ false
no_label mnemonic form other e = false_from_ne_true (accepts mnemonic forms.Label) (λ h. other (label_alone mnemonic form h e))
