-- What the statements on numbers, words and shifts do.
use Rattle.std.specs.Prelude.{ℕ, ◌%◌, if◌then◌else◌, Option, Some, None, Result, Ok, Err}
use Rattle.status_word.specs.NumberRows.{compared}
use Rattle.accumulators.specs.declared.accus.Accus.{Accus}
use Rattle.accumulators.specs.Parts.{part, number}
use Rattle.accumulators.specs.Numbers.{worked, worked_status}
use Rattle.accumulators.specs.Bcd.{are_decimal, bcd_digits, from_bcd_of, to_bcd_of, to_bcd_status}
use Rattle.accumulators.specs.Words.{worded, worded_status}
use Rattle.accumulators.specs.Shifts.{shifted, shifted_status}
use Rattle.statement_effects.specs.declared.areas.Registers.{Registers}
use Rattle.statement_effects.specs.declared.instruction.NumberInstruction.{NumberInstruction}
use Rattle.statement_effects.specs.declared.instruction.NumberInstruction.TheVariants.{Work, FromBcd, ToBcd, Compare}
use Rattle.statement_effects.specs.declared.instruction.WordInstruction.{WordInstruction}
use Rattle.statement_effects.specs.declared.instruction.WordInstruction.TheVariants.{Logic, Shift}

-- a statement on numbers; a digit above 9 is error 1
abbrev pub effect_number : NumberInstruction → Registers → Result Registers ℕ
effect_number (Work op) r = Ok (record r { accus = worked op r.accus; status = worked_status op r.accus r.status })
effect_number (FromBcd wide) r =
    if are_decimal (bcd_digits wide r.accus) then Ok (record r { accus = from_bcd_of wide r.accus }) else Err 1
effect_number (ToBcd wide) r = Ok (record r { accus = to_bcd_of wide r.accus; status = to_bcd_status wide r.accus r.status })
effect_number (Compare how wide) r =
    Ok (record r { status = compared how (number (part wide) r.accus.accu2) (number (part wide) r.accus.accu1) r.status })

-- the count of a shift: its own, or the low byte of ACCU2
abbrev pub count_of : Option ℕ → Accus → ℕ
count_of None a = a.accu2 % 256
count_of (Some count) a = count

-- a statement on words
abbrev pub effect_word : WordInstruction → Registers → Registers
effect_word (Logic op wide constant) r =
    record r { accus = worded op wide constant r.accus; status = worded_status op wide constant r.accus r.status }
effect_word (Shift op count) r =
    record r { accus = shifted op (count_of count r.accus) r.accus; status = shifted_status op (count_of count r.accus) r.accus r.status }
