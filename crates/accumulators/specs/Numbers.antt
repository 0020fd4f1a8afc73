-- The statements on numbers: what they leave in ACCU1, CC1 CC0 and overflow.
use Rattle.std.specs.Prelude.{ℕ, zero, suc, ◌+◌, ◌-◌, ◌*◌, ◌^◌, ℤ, pos, negsuc, ◌+ℤ◌, ◌-ℤ◌, ◌*ℤ◌, neg_ℤ, int_le, int_lt, int_div, int_rem, Bool, true, false, not, ◌&&◌, if◌then◌else◌, Option, Some, None}
use Rattle.status_word.specs.declared.status.StatusWord.{StatusWord}
use Rattle.status_word.specs.NumberRows.{arith_row}
use Rattle.accumulators.specs.declared.accus.Accus.{Accus}
use Rattle.accumulators.specs.declared.parts.Part.{Part}
use Rattle.accumulators.specs.declared.parts.Part.TheVariants.{LowWord, Whole}
use Rattle.instruction_set.specs.declared.operation.Num.{Num}
use Rattle.instruction_set.specs.declared.operation.Num.TheVariants.{AddI, SubI, MulI, DivI, AddD, SubD, MulD, DivD, ModD, NegI, NegD}
use Rattle.accumulators.specs.declared.numbers.Outcome.{Outcome}
use Rattle.accumulators.specs.Parts.{size, number, low_bits, stored}

-- CC1 CC0 by the sign of an integer: 00 zero, 01 negative, 10 positive
abbrev pub sign_codes : ℤ → ℕ
sign_codes (pos zero) = 0
sign_codes (pos (suc n)) = 2
sign_codes (negsuc n) = 1

-- the range of a part: -32768 to 32767 for a word, -2147483648 to 2147483647 for the whole
abbrev pub is_in_range : Part → ℤ → Bool
is_in_range part z =
    int_le (neg_ℤ (pos (2 ^ (size part - 1)))) z && int_lt z (pos (2 ^ (size part - 1)))

-- +, - and NEG with the true result z: its low bits, and its sign; past the range, the sign of what is stored
abbrev pub sum_outcome : Part → ℕ → ℤ → Outcome
sum_outcome part accu z = record {
  accu1 = stored part accu z;
  codes = sign_codes (if is_in_range part z then z else number part (low_bits part z));
  overflow = not (is_in_range part z);
}

-- *: 32 bits of the true product, and its true sign
abbrev pub product_outcome : Part → ℤ → Outcome
product_outcome part z = record {
  accu1 = low_bits Whole z;
  codes = sign_codes z;
  overflow = not (is_in_range part z);
}

-- /I: the quotient in the low word, the remainder in the high word, and the sign of the quotient
abbrev pub word_quotient_outcome : ℤ → ℤ → Outcome
word_quotient_outcome left right = record {
  accu1 = 2 ^ 16 * low_bits LowWord (int_rem left right) + low_bits LowWord (int_div left right);
  codes = sign_codes (int_div left right);
  overflow = not (is_in_range LowWord (int_div left right));
}

-- /D: the quotient; MOD: the remainder
abbrev pub whole_outcome : ℤ → Outcome
whole_outcome z = record {
  accu1 = low_bits Whole z;
  codes = sign_codes z;
  overflow = not (is_in_range Whole z);
}

-- no outcome where the divisor is 0
abbrev pub unless_zero : ℤ → Outcome → Option Outcome
unless_zero (pos zero) outcome = None
unless_zero (pos (suc n)) outcome = Some outcome
unless_zero (negsuc n) outcome = Some outcome

-- the outcome of the numbers of ACCU2, on the left, and of ACCU1
abbrev pub outcome_of : Num → ℤ → ℤ → ℕ → Option Outcome
outcome_of AddI left right accu1 = Some (sum_outcome LowWord accu1 (left +ℤ right))
outcome_of SubI left right accu1 = Some (sum_outcome LowWord accu1 (left -ℤ right))
outcome_of MulI left right accu1 = Some (product_outcome LowWord (left *ℤ right))
outcome_of DivI left right accu1 =
    unless_zero right (word_quotient_outcome left right)
outcome_of AddD left right accu1 = Some (sum_outcome Whole accu1 (left +ℤ right))
outcome_of SubD left right accu1 = Some (sum_outcome Whole accu1 (left -ℤ right))
outcome_of MulD left right accu1 = Some (product_outcome Whole (left *ℤ right))
outcome_of DivD left right accu1 = unless_zero right (whole_outcome (int_div left right))
outcome_of ModD left right accu1 = unless_zero right (whole_outcome (int_rem left right))
outcome_of NegI left right accu1 = Some (sum_outcome LowWord accu1 (neg_ℤ right))
outcome_of NegD left right accu1 = Some (sum_outcome Whole accu1 (neg_ℤ right))

-- I forms work on the low words, D forms on the whole accumulators
abbrev pub part_of : Num → Part
part_of AddI = LowWord
part_of SubI = LowWord
part_of MulI = LowWord
part_of DivI = LowWord
part_of AddD = Whole
part_of SubD = Whole
part_of MulD = Whole
part_of DivD = Whole
part_of ModD = Whole
part_of NegI = LowWord
part_of NegD = Whole

abbrev pub is_negation : Num → Bool
is_negation AddI = false
is_negation SubI = false
is_negation MulI = false
is_negation DivI = false
is_negation AddD = false
is_negation SubD = false
is_negation MulD = false
is_negation DivD = false
is_negation ModD = false
is_negation NegI = true
is_negation NegD = true

-- the outcome of a statement on these accumulators
abbrev pub outcome : Num → Accus → Option Outcome
outcome op a = outcome_of op (number (part_of op) a.accu2) (number (part_of op) a.accu1) a.accu1

-- ACCU1 is the result; but for NEG, ACCU3 and ACCU4 move down
abbrev pub with_result : Bool → ℕ → Accus → Accus
with_result keeps accu1_after a =
    if keeps
    then record a { accu1 = accu1_after }
    else record { accu1 = accu1_after; accu2 = a.accu3; accu3 = a.accu4; accu4 = a.accu4 }

-- the accumulators afterwards: where the divisor is 0, all as they were
abbrev pub accus_after : Bool → Option Outcome → Accus → Accus
accus_after keeps None a = a
accus_after keeps (Some o) a = with_result keeps o.accu1 a

-- the status word afterwards: where the divisor is 0, CC1 CC0 is 11, and OV and OS are 1
abbrev pub status_after : Option Outcome → StatusWord → StatusWord
status_after None s = arith_row 3 true s
status_after (Some o) s = arith_row o.codes o.overflow s

abbrev pub worked : Num → Accus → Accus
worked op a = accus_after (is_negation op) (outcome op a) a

abbrev pub worked_status : Num → Accus → StatusWord → StatusWord
worked_status op a s = status_after (outcome op a) s
