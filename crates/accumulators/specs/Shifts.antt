-- Shifts and rotations of ACCU1.
use Rattle.std.specs.Prelude.{ℕ, ◌-◌, ◌*◌, ◌/◌, ◌%◌, ◌^◌, ◌==◌, nat_le, min, false, if◌then◌else◌}
use Rattle.std.specs.Int.{w32, int_shr, rotate_left, rotate_right}
use Rattle.status_word.specs.declared.status.StatusWord.{StatusWord}
use Rattle.status_word.specs.Status.{is_set}
use Rattle.status_word.specs.NumberRows.{shift_row}
use Rattle.accumulators.specs.declared.accus.Accus.{Accus}
use Rattle.accumulators.specs.declared.parts.Part.{Part}
use Rattle.accumulators.specs.declared.parts.Part.TheVariants.{LowWord, Whole}
use Rattle.instruction_set.specs.declared.operation.Shift.{Shift}
use Rattle.instruction_set.specs.declared.operation.Shift.TheVariants.{Ssi, Ssd, Slw, Srw, Sld, Srd, Rld, Rrd}
use Rattle.accumulators.specs.declared.shifts.Shifted.{Shifted}
use Rattle.accumulators.specs.Parts.{size, low, number, low_bits, with_low}

-- to the left: a count above the width leaves 0, and the last bit moved out is 0
abbrev pub to_left : Part → ℕ → ℕ → Shifted
to_left part bits count =
    if nat_le count (size part)
    then record { bits = (bits * 2 ^ count) % 2 ^ size part; last = is_set bits (size part - count) }
    else record { bits = 0; last = false }

-- to the right, likewise
abbrev pub to_right : Part → ℕ → ℕ → Shifted
to_right part bits count =
    if nat_le count (size part)
    then record { bits = bits / 2 ^ count; last = is_set bits (count - 1) }
    else record { bits = 0; last = false }

-- to the right as a signed number, whose sign moves in: a count above the width acts as the width
abbrev pub signed_to_right : Part → ℕ → ℕ → Shifted
signed_to_right part accu count =
    let places = min count (size part)
    in record { bits = low_bits part (int_shr (number part accu) places); last = is_set (low part accu) (places - 1) }

-- a rotation to the left moves the last bit out to bit 0, one to the right to bit 31
abbrev pub rotated_left : ℕ → ℕ → Shifted
rotated_left accu count =
    record { bits = rotate_left w32 accu count; last = is_set (rotate_left w32 accu count) 0 }

abbrev pub rotated_right : ℕ → ℕ → Shifted
rotated_right accu count =
    record { bits = rotate_right w32 accu count; last = is_set (rotate_right w32 accu count) 31 }

-- by a count above 0
abbrev pub shift_of : Shift → ℕ → ℕ → Shifted
shift_of Ssi accu count = signed_to_right LowWord accu count
shift_of Ssd accu count = signed_to_right Whole accu count
shift_of Slw accu count = to_left LowWord (low LowWord accu) count
shift_of Srw accu count = to_right LowWord (low LowWord accu) count
shift_of Sld accu count = to_left Whole (low Whole accu) count
shift_of Srd accu count = to_right Whole (low Whole accu) count
shift_of Rld accu count = rotated_left accu count
shift_of Rrd accu count = rotated_right accu count

-- the part that it shifts
abbrev pub shift_part : Shift → Part
shift_part Ssi = LowWord
shift_part Ssd = Whole
shift_part Slw = LowWord
shift_part Srw = LowWord
shift_part Sld = Whole
shift_part Srd = Whole
shift_part Rld = Whole
shift_part Rrd = Whole

-- a count of 0 changes nothing
abbrev pub shifted : Shift → ℕ → Accus → Accus
shifted op count a =
    if count == 0
    then a
    else record a { accu1 = with_low (shift_part op) a.accu1 (shift_of op a.accu1 count).bits }

abbrev pub shifted_status : Shift → ℕ → Accus → StatusWord → StatusWord
shifted_status op count a s = if count == 0 then s else shift_row (shift_of op a.accu1 count).last s
