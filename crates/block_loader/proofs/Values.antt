-- A jump is of the language whatever number its value is.
use Rattle.std.proofs.Common.{◌≡◌, ℕ, Bool, true, false, ◌&&◌, ◌||◌, subst, sym}
use Rattle.std.specs.Prelude.{Option, Some, None, ◌==◌, nat_lt, nat_le}
use Rattle.std.proofs.lemmas.Bool.{eqb-true}
use Rattle.instruction_set.specs.declared.operands.OperandArea.TheVariants as areas
use Rattle.instruction_set.specs.declared.operands.OperandKind.{OperandKind}
use Rattle.instruction_set.specs.declared.operands.OperandKind.TheVariants as kinds
use Rattle.s7_base.specs.declared.statement.Statement.{Statement}
use Rattle.instruction_set.specs.declared.table.InstructionRow.{InstructionRow}
use Rattle.s7_base.specs.Operands.{allows, is_in, is_memory, is_timer_or_counter, is_up_to, is_exactly, is_constant, is_about_data, is_within, unit_bytes}
use Rattle.instruction_set.specs.Rows.{row_of}
use Rattle.s7_base.specs.Statements.{is_of_row, is_statement}
use Rattle.block_loader.specs.Load.{with_target}

module _ (locals op bit db value n : ℕ) where
  abbrev jump : Statement
  jump = record { op = op; area = 13; bit = bit; db = db; value = value }

  -- of all kinds of operands only a target is in this area
  still_allowed : (kind : OperandKind) → allows kind locals jump ≡ true → allows kind locals (with_target n jump) ≡ true
  still_allowed kinds.Nothing e = absurd cc
  still_allowed kinds.CheckedBit e = by (nat_le bit 7) e
    where
      by : (t : Bool) → (t && is_memory locals 1 jump || is_timer_or_counter jump || is_up_to areas.Status 9 jump) ≡ true → allows kinds.CheckedBit locals (with_target n jump) ≡ true
      by true e = absurd cc
      by false e = absurd cc
  still_allowed kinds.WrittenBit e = by (nat_le bit 7) e
    where
      by : (t : Bool) → (t && is_memory locals 1 jump) ≡ true → allows kinds.WrittenBit locals (with_target n jump) ≡ true
      by true e = absurd cc
      by false e = absurd cc
  still_allowed kinds.SetBit e = by (nat_le bit 7) e
    where
      by : (t : Bool) → (t && is_memory locals 1 jump || is_up_to areas.Counter 255 jump) ≡ true → allows kinds.SetBit locals (with_target n jump) ≡ true
      by true e = absurd cc
      by false e = absurd cc
  still_allowed kinds.ResetBit e = by (nat_le bit 7) e
    where
      by : (t : Bool) → (t && is_memory locals 1 jump || is_timer_or_counter jump) ≡ true → allows kinds.ResetBit locals (with_target n jump) ≡ true
      by true e = absurd cc
      by false e = absurd cc
  still_allowed kinds.Loaded e = by (nat_lt 0 (unit_bytes bit)) e
    where
      by : (t : Bool) → (t && is_memory locals (unit_bytes bit) jump || t && is_within areas.PeripheralIn 1024 (unit_bytes bit) jump && db == 0 || is_constant jump || is_timer_or_counter jump || is_exactly areas.StatusWord 0 jump || is_about_data jump) ≡ true → allows kinds.Loaded locals (with_target n jump) ≡ true
      by true e = absurd cc
      by false e = absurd cc
  still_allowed kinds.Stored e = by (nat_lt 0 (unit_bytes bit)) e
    where
      by : (t : Bool) → (t && is_memory locals (unit_bytes bit) jump || t && is_within areas.PeripheralOut 1024 (unit_bytes bit) jump && db == 0 || is_exactly areas.StatusWord 0 jump) ≡ true → allows kinds.Stored locals (with_target n jump) ≡ true
      by true e = absurd cc
      by false e = absurd cc
  still_allowed kinds.Coded e = absurd cc
  still_allowed kinds.Addend e = absurd cc
  still_allowed (kinds.UpTo most) e = absurd cc
  still_allowed (kinds.Exactly number) e = absurd cc
  still_allowed (kinds.AtMost most) e = absurd cc
  still_allowed kinds.Mask e = absurd cc
  still_allowed kinds.Target e = e
  still_allowed kinds.Timer e = absurd cc
  still_allowed kinds.Counter e = absurd cc
  still_allowed kinds.DataBlock e = absurd cc
  still_allowed kinds.InstanceBlock e = absurd cc
  still_allowed kinds.Function e = absurd cc
  still_allowed kinds.FunctionBlock e = absurd cc
  still_allowed kinds.FunctionBlockWithData e = absurd cc
  still_allowed (kinds.SystemFunction number) e = absurd cc

  still_of_row : (row : Option InstructionRow) → is_of_row row locals jump ≡ true → is_of_row row locals (with_target n jump) ≡ true
  still_of_row None e = absurd cc
  still_of_row (Some row) e = still_allowed row.operand e

-- with another target a jump is still of the language
pub still_statement : (locals n : ℕ) (s : Statement) → is_in areas.Target s ≡ true → is_statement locals s ≡ true → is_statement locals (with_target n s) ≡ true
still_statement locals n s there e =
    let area : s.area ≡ 13 = eqb-true s.area 13 there in
    let here = subst (λ a. is_statement locals (record { op = s.op; area = a; bit = s.bit; db = s.db; value = s.value }) ≡ true) area e in
    subst (λ a. is_statement locals (record { op = s.op; area = a; bit = s.bit; db = s.db; value = n }) ≡ true) (sym area) (still_of_row locals s.op s.bit s.db s.value n (row_of s.op) here)
