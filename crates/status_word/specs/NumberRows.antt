-- What number, compare, word and shift statements do to the status word.
use Rattle.std.specs.Prelude.{ℕ, ◌/◌, ◌%◌, ◌==◌, ℤ, int_lt, int_le, Bool, true, false, not, ◌||◌}
use Rattle.std.specs.Ordering.{int_eq}
use Rattle.status_word.specs.declared.status.StatusWord.{StatusWord}
use Rattle.instruction_set.specs.declared.operation.Cmp.{Cmp}
use Rattle.instruction_set.specs.declared.operation.Cmp.TheVariants.{Eq, Ne, Gt, Lt, Ge, Le}
use Rattle.status_word.specs.Status.{row}

-- CC1 and CC0 are these, and OV is 0
abbrev pub with_codes : Bool → Bool → StatusWord → StatusWord
with_codes cc1_after cc0_after s = record s { cc1 = cc1_after; cc0 = cc0_after; ov = false }

-- cc is 2 * CC1 + CC0; an overflow sets OV and OS, else OV is 0 and OS stays
abbrev pub arith_row : ℕ → Bool → StatusWord → StatusWord
arith_row cc overflow s = record s { cc1 = cc / 2 == 1; cc0 = cc % 2 == 1; ov = overflow; os = s.os || overflow }

-- the relation of ACCU2, on the left, to ACCU1
abbrev pub relation : Cmp → ℤ → ℤ → Bool
relation Eq left right = int_eq left right
relation Ne left right = not (int_eq left right)
relation Gt left right = int_lt right left
relation Lt left right = int_lt left right
relation Ge left right = int_le right left
relation Le left right = int_le left right

-- a compare: CC1 CC0 is 10 where ACCU2 is greater, 01 where it is less and 00 where they are equal
abbrev pub compared : Cmp → ℤ → ℤ → StatusWord → StatusWord
compared how left right s =
    row false (relation how left right) (relation how left right) true (with_codes (int_lt right left) (int_lt left right) s)

-- AND, OR and exclusive OR of words
abbrev pub logic_row : Bool → StatusWord → StatusWord
logic_row nonzero s = with_codes nonzero false s

-- a shift or rotation by a count above 0, with the last bit that it moved out
abbrev pub shift_row : Bool → StatusWord → StatusWord
shift_row last s = with_codes last false s
