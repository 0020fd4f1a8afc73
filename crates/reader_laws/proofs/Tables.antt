-- The laws of the tables.
use Rattle.std.proofs.Common.{◌≡◌, ℕ, List, [], ◌∷◌, refl, subst, ap, sym, ◌∙◌, Bool, true, false, ◌&&◌, ◌||◌, ◌⊎◌, inl, inr, ◌==◌}
use Rattle.std.specs.Prelude.{not, nat_le, Option, Some, None}
use Rattle.std.specs.List.{list_all}
use Rattle.std.specs.Str.{bytes_eq}
use Rattle.std.proofs.lemmas.Bool.{and_parts, eqb-true, eq-eqb}
use Rattle.std.proofs.lemmas.Slice.Eq.{bytes_eq-Decides}
use Rattle.instruction_set.specs.declared.operands.OperandArea.{OperandArea}
use Rattle.instruction_set.specs.declared.operands.OperandArea.TheVariants as areas
use Rattle.instruction_set.specs.declared.operands.OperandKind.{OperandKind}
use Rattle.instruction_set.specs.declared.operands.OperandKind.TheVariants as kinds
use Rattle.s7_base.specs.declared.statement.Statement.{Statement}
use Rattle.instruction_set.specs.declared.table.InstructionRow.{InstructionRow}
use Rattle.instruction_set.specs.InstructionSet.{instruction_set}
use Rattle.instruction_set.specs.Areas.{area_number}
use Rattle.s7_base.specs.Operands.{allows, is_data_number, is_in, is_number, is_exactly}
use Rattle.reader_laws.specs.Tokens.{IsOneOf}
use Rattle.reader_laws.specs.Tables.{WordsSayTheirOperands}
use Rattle.reader_laws.proofs.Rows.{each}

pub words_are_theirs : WordsSayTheirOperands
words_are_theirs = record { words = refl; apart = refl }

-- the area of the operands of a kind, where they have one
area_of_kind : OperandKind → Option ℕ
area_of_kind kinds.Nothing = Some 0
area_of_kind kinds.Timer = Some 9
area_of_kind kinds.Counter = Some 10
area_of_kind kinds.DataBlock = Some 5
area_of_kind kinds.InstanceBlock = Some 6
area_of_kind kinds.Function = Some 16
area_of_kind kinds.FunctionBlock = Some 17
area_of_kind kinds.FunctionBlockWithData = Some 17
area_of_kind (kinds.SystemFunction number) = Some 18
area_of_kind (kinds.Exactly number) = Some 11
area_of_kind _ = None

differ : Option ℕ → Option ℕ → Bool
differ (Some a) (Some b) = not (a == b)
differ _ _ = false

-- kinds of one area that have no operand in common, and a check against none
special : OperandKind → OperandKind → Bool
special kinds.CheckedBit kinds.Nothing = true
special kinds.Nothing kinds.CheckedBit = true
special (kinds.SystemFunction a) (kinds.SystemFunction b) = not (a == b)
special (kinds.Exactly a) (kinds.Exactly b) = not (a == b)
special _ _ = false

-- two kinds have no operand in common
kinds_apart : OperandKind → OperandKind → Bool
kinds_apart k l = differ (area_of_kind k) (area_of_kind l) || special k l

-- a row has no operand in common with a later one of its mnemonic
pub row_apart : InstructionRow → InstructionRow → Bool
row_apart a b = not (bytes_eq b.mnemonic a.mnemonic) || kinds_apart a.operand b.operand

unfoldable pub rows_apart : List InstructionRow → Bool
rows_apart [] = true
rows_apart (r ∷ rs) = list_all (row_apart r) rs && rows_apart rs

not_true : (b : Bool) → b ≡ true → not b ≡ true → ⊥
not_true true h k = cc
not_true false h k = cc

either_true : (a b : Bool) → (a || b) ≡ true → (a ≡ true) ⊎ (b ≡ true)
either_true true b e = inl refl
either_true false b e = inr e

module _ (locals : ℕ) (s : Statement) where
  number_area : (area : OperandArea) → is_number area s ≡ true → s.area ≡ area_number area
  number_area area h = eqb-true s.area (area_number area) (and_parts (is_in area s) (s.bit == 0) (and_parts (is_in area s && s.bit == 0) (s.db == 0) h).0).0

  exactly_area : (area : OperandArea) (n : ℕ) → is_exactly area n s ≡ true → s.area ≡ area_number area
  exactly_area area n h = number_area area (and_parts (is_number area s) (s.value == n) h).0

  exactly_value : (area : OperandArea) (n : ℕ) → is_exactly area n s ≡ true → s.value ≡ n
  exactly_value area n h = eqb-true s.value n (and_parts (is_number area s) (s.value == n) h).1

  exact : (area : OperandArea) (n m : ℕ) → is_exactly area n s ≡ true → is_exactly area m s ≡ true → not (n == m) ≡ true → ⊥
  exact area n m h k e = not_true (n == m) (eq-eqb n m (sym (exactly_value area n h) ∙ exactly_value area m k)) e

  area_is : (k : OperandKind) (area : ℕ) → area_of_kind k ≡ Some area → allows k locals s ≡ true → s.area ≡ area
  unfolding area_of_kind
  area_is kinds.Nothing area e h = let same : 0 ≡ area = cc in exactly_area areas.Nothing 0 h ∙ same
  area_is kinds.Timer area e h = let same : 9 ≡ area = cc in number_area areas.Timer (and_parts (is_number areas.Timer s) (nat_le s.value 255) h).0 ∙ same
  area_is kinds.Counter area e h = let same : 10 ≡ area = cc in number_area areas.Counter (and_parts (is_number areas.Counter s) (nat_le s.value 255) h).0 ∙ same
  area_is kinds.DataBlock area e h = let same : 5 ≡ area = cc in number_area areas.Data (and_parts (is_number areas.Data s) (is_data_number s.value) h).0 ∙ same
  area_is kinds.InstanceBlock area e h = let same : 6 ≡ area = cc in number_area areas.Instance (and_parts (is_number areas.Instance s) (is_data_number s.value) h).0 ∙ same
  area_is kinds.Function area e h = let same : 16 ≡ area = cc in number_area areas.Function (and_parts (is_number areas.Function s) (nat_le s.value 255) h).0 ∙ same
  area_is kinds.FunctionBlock area e h = let same : 17 ≡ area = cc in number_area areas.FunctionBlock (and_parts (is_number areas.FunctionBlock s) (nat_le s.value 255) h).0 ∙ same
  area_is kinds.FunctionBlockWithData area e h =
      let same : 17 ≡ area = cc in
      let one = and_parts (is_in areas.FunctionBlock s && s.bit == 0 && nat_le s.value 255) (is_data_number s.db) h in
      let two = and_parts (is_in areas.FunctionBlock s && s.bit == 0) (nat_le s.value 255) one.0 in
      eqb-true s.area 17 (and_parts (is_in areas.FunctionBlock s) (s.bit == 0) two.0).0 ∙ same
  area_is (kinds.SystemFunction number) area e h = let same : 18 ≡ area = cc in exactly_area areas.SystemFunction number h ∙ same
  area_is (kinds.Exactly number) area e h = let same : 11 ≡ area = cc in exactly_area areas.Word number h ∙ same
  area_is _ area e h = absurd cc

  by_area : (k l : OperandKind) (o p : Option ℕ) → area_of_kind k ≡ o → area_of_kind l ≡ p → differ o p ≡ true → allows k locals s ≡ true → allows l locals s ≡ true → ⊥
  unfolding differ
  by_area k l (Some a) (Some b) is h e x y = not_true (a == b) (eq-eqb a b (sym (area_is k a is x) ∙ area_is l b h y)) e
  by_area k l (Some a) None is h e x y = cc
  by_area k l None p is h e x y = cc

  no_check : allows kinds.CheckedBit locals s ≡ true → allows kinds.Nothing locals s ≡ true → ⊥
  no_check x y =
      let zero : s.area ≡ 0 = exactly_area areas.Nothing 0 y in
      by (nat_le s.bit 7) refl (subst (λ n. allows kinds.CheckedBit locals (record s { area = n }) ≡ true) zero x)
    where
      by : (b : Bool) → nat_le s.bit 7 ≡ b → allows kinds.CheckedBit locals (record s { area = 0 }) ≡ true → ⊥
      by true is e = let wrong : false ≡ true = rw is at e in cc
      by false is e = let wrong : false ≡ true = rw is at e in cc

  by_special : (k l : OperandKind) → special k l ≡ true → allows k locals s ≡ true → allows l locals s ≡ true → ⊥
  unfolding special
  by_special kinds.CheckedBit kinds.Nothing e x y = no_check x y
  by_special kinds.Nothing kinds.CheckedBit e x y = no_check y x
  by_special (kinds.SystemFunction a) (kinds.SystemFunction b) e x y = exact areas.SystemFunction a b x y e
  by_special (kinds.Exactly a) (kinds.Exactly b) e x y = exact areas.Word a b x y e
  by_special _ _ e x y = cc

  disjoint : (k l : OperandKind) → kinds_apart k l ≡ true → allows k locals s ≡ true → allows l locals s ≡ true → ⊥
  unfolding kinds_apart
  disjoint k l e x y = elim (either_true (differ (area_of_kind k) (area_of_kind l)) (special k l) e) [
    | inl h ↦ by_area k l (area_of_kind k) (area_of_kind l) refl refl h x y
    | inr h ↦ by_special k l h x y
  ]

  pub rows_disjoint : (a b : InstructionRow) → row_apart a b ≡ true → a.mnemonic ≡ b.mnemonic → allows a.operand locals s ≡ true → allows b.operand locals s ≡ true → ⊥
  unfolding row_apart
  rows_disjoint a b e same x y = elim (either_true (not (bytes_eq b.mnemonic a.mnemonic)) (kinds_apart a.operand b.operand) e) [
    | inl h ↦ not_true (bytes_eq b.mnemonic a.mnemonic) ((bytes_eq-Decides b.mnemonic a.mnemonic).1 (sym same)) h
    | inr h ↦ disjoint a.operand b.operand h x y
  ]

  one_row : (rows : List InstructionRow) (a b : InstructionRow) → rows_apart rows ≡ true → IsOneOf a rows → IsOneOf b rows → a.mnemonic ≡ b.mnemonic → allows a.operand locals s ≡ true → allows b.operand locals s ≡ true → a ≡ b
  unfolding rows_apart
  one_row [] a b all ha hb same x y = absurd ha
  one_row (r ∷ rs) a b all (inl is) (inl h) same x y = sym is ∙ h
  one_row (r ∷ rs) a b all (inl is) (inr h) same x y =
      let apart = each (row_apart r) rs b (and_parts (list_all (row_apart r) rs) (rows_apart rs) all).0 h in
      absurd (rows_disjoint a b (ap (λ r. row_apart r b) (sym is) ∙ apart) same x y)
  one_row (r ∷ rs) a b all (inr h) (inl is) same x y =
      let apart = each (row_apart r) rs a (and_parts (list_all (row_apart r) rs) (rows_apart rs) all).0 h in
      absurd (rows_disjoint b a (ap (λ r. row_apart r a) (sym is) ∙ apart) (sym same) y x)
  one_row (r ∷ rs) a b all (inr h) (inr k) same x y = one_row rs a b (and_parts (list_all (row_apart r) rs) (rows_apart rs) all).1 h k same x y

pub table_apart : rows_apart instruction_set ≡ true
unfolding rows_apart row_apart kinds_apart differ special area_of_kind
table_apart = refl

pub one_operation : (a b : InstructionRow) (locals : ℕ) (s : Statement) → IsOneOf a instruction_set → IsOneOf b instruction_set → a.mnemonic ≡ b.mnemonic → allows a.operand locals s ≡ true → allows b.operand locals s ≡ true → a ≡ b
one_operation a b locals s ha hb same x y = one_row locals s instruction_set a b table_apart ha hb same x y
