-- Bracketed Boolean expressions, as statements and as what they say.
use Rattle.std.specs.Prelude.{◌≡◌, ℕ, suc, ◌+◌, ◌<◌, ◌≤◌, max, length, Bool, true, false, not, ◌&&◌, ◌||◌, if◌then◌else◌, Ok, Err}
use Rattle.status_word.specs.declared.status.StatusWord.{StatusWord}
use Rattle.instruction_set.specs.declared.operation.Check.{Check}
use Rattle.instruction_set.specs.declared.operation.Check.TheVariants.{And, AndNot, Or, OrNot, Xor, XorNot}
use Rattle.status_word.specs.BitRows.{checked, or_row, differ}
use Rattle.bit_unit.specs.State.{BitState}
use Rattle.bit_unit.specs.Steps.{Bits, Step, group_opened, group_closed}

-- a bit, or checks behind one another: the operand of each is a bit, or an expression that stands in brackets
pub data Expression : Type 0 where
  Bit : (bit : Bool) → Expression
  First : (how : Check) (operand : Expression) → Expression
  Then : (before : Expression) (how : Check) (operand : Expression) → Expression
  -- O alone, and behind it A, or AN where inverted
  OrAnd : (before : Expression) (inverted : Bool) (operand : Expression) → Expression

-- ---- what an expression says

-- what stands to the left of the last O alone, and what has been combined since
pub record Reading : Type 0 where
  pub left : Bool
  pub right : Bool

abbrev pub value_of : Reading → Bool
value_of r = r.left || r.right

-- AN, ON and XN invert their operand
abbrev pub operand_value : Check → Bool → Bool
operand_value And x = x
operand_value AndNot x = not x
operand_value Or x = x
operand_value OrNot x = not x
operand_value Xor x = x
operand_value XorNot x = not x

-- A binds more tightly than an O alone; O and X take all that stands before them
abbrev pub combined : Check → Reading → Bool → Reading
combined And r x = record { left = r.left; right = r.right && x }
combined AndNot r x = record { left = r.left; right = r.right && not x }
combined Or r x = record { left = false; right = value_of r || x }
combined OrNot r x = record { left = false; right = value_of r || not x }
combined Xor r x = record { left = false; right = differ (value_of r) x }
combined XorNot r x = record { left = false; right = differ (value_of r) (not x) }

unfoldable pub reading : Expression → Reading
reading (Bit bit) = record { left = false; right = bit }
reading (First how operand) =
    record { left = false; right = operand_value how (value_of (reading operand)) }
reading (Then before how operand) = combined how (reading before) (value_of (reading operand))
reading (OrAnd before inverted operand) = record {
  left = value_of (reading before);
  right = if inverted then not (value_of (reading operand)) else value_of (reading operand);
}

-- the Boolean value of an expression
abbrev pub value : Expression → Bool
value expression = value_of (reading expression)

-- ---- the statements of an expression

abbrev pub and_then : Step → (Bits → Step) → Step
and_then (Ok bits) next = next bits
and_then (Err fault) next = Err fault

abbrev pub bit_checked : Check → Bool → Bits → Step
bit_checked how bit bits = Ok (bits.0, checked how bit bits.1)

-- a whole group: it opens, its statements run, and it closes
abbrev pub group_run : Check → (Bits → Step) → Bits → Step
group_run how inner bits =
    and_then (and_then (group_opened how bits.0 bits.1) inner) (λ after. group_closed after.0 after.1)

-- a check of an operand, which is a bit or stands in brackets
abbrev pub operand_run : Check → Expression → (Bits → Step) → Bits → Step
operand_run how (Bit bit) inner bits = bit_checked how bit bits
operand_run how (First check operand) inner bits = group_run how inner bits
operand_run how (Then before check operand) inner bits = group_run how inner bits
operand_run how (OrAnd before inverted operand) inner bits = group_run how inner bits

abbrev pub or_run : Bits → Bits
or_run bits = (bits.0, or_row bits.1)

-- the statements of an expression; a bit alone is an A
unfoldable pub run : Expression → Bits → Step
run (Bit bit) bits = bit_checked And bit bits
run (First how operand) bits = operand_run how operand (run operand) bits
run (Then before how operand) bits = and_then (run before bits) (operand_run how operand (run operand))
run (OrAnd before inverted operand) bits =
    and_then (run before bits) (λ after. operand_run (if inverted then AndNot else And) operand (run operand) (or_run after))

-- ---- the law

-- how many groups stand in one another
abbrev pub operand_depth : Expression → ℕ → ℕ
operand_depth (Bit bit) inner = 0
operand_depth (First how operand) inner = suc inner
operand_depth (Then before how operand) inner = suc inner
operand_depth (OrAnd before inverted operand) inner = suc inner

unfoldable pub depth : Expression → ℕ
depth (Bit bit) = 0
depth (First how operand) = operand_depth operand (depth operand)
depth (Then before how operand) = max (depth before) (operand_depth operand (depth operand))
depth (OrAnd before inverted operand) = max (depth before) (operand_depth operand (depth operand))

-- STA after a check: the bit, or 1 after a group
abbrev pub operand_sta : Expression → Bool
operand_sta (Bit bit) = bit
operand_sta (First how operand) = true
operand_sta (Then before how operand) = true
operand_sta (OrAnd before inverted operand) = true

abbrev pub last_sta : Expression → Bool
last_sta (Bit bit) = bit
last_sta (First how operand) = operand_sta operand
last_sta (Then before how operand) = operand_sta operand
last_sta (OrAnd before inverted operand) = operand_sta operand

-- the status word after an expression: the RLO is its value, and OR is what stands left of an O alone
abbrev pub status_after : Expression → StatusWord → StatusWord
status_after expression s = record s {
  rlo = value expression;
  or = (reading expression).left;
  sta = last_sta expression;
  first_check = true;
}

-- the next check is a first one, and OR is 0, as behind a bracket that opens
abbrev pub fresh : StatusWord → StatusWord
fresh s = record s { or = false; first_check = false }

-- where there is room for its groups, an expression leaves its value in the RLO, and the stacks as they were
abbrev pub LeavesItsValue : Expression → Type 0
LeavesItsValue expression =
    (b : BitState) (s : StatusWord) → depth expression + length b.groups ≤ 7 → run expression (b, fresh s) ≡ Ok (b, status_after expression s)

-- a whole group is the check of the value in it, with RLO, OR and /FC as they were before it; STA is 1
abbrev pub IsTheCheckOf : Check → Expression → Type 0
IsTheCheckOf how expression =
    (b : BitState) (s : StatusWord) → depth expression + length b.groups < 7 → group_run how (run expression) (b, s) ≡ Ok (b, record (checked how (value expression) s) { sta = true })
