-- What the statements on counters do.
use Rattle.std.specs.Prelude.{ℕ, ◌%◌, ◌==◌, ◌&&◌, not, if◌then◌else◌, Result, Ok, Err, slice_index_or, slice_set}
use Rattle.status_word.specs.BitRows.{checked, timer_row}
use Rattle.s5_time.specs.Bcd.{is_bcd, bcd_value, bcd_of}
use Rattle.counters.specs.Rule.{counted_up, counted_down, sets, set_to, reset, enabled}
use Rattle.counters.specs.State.{CounterState, fresh}
use Rattle.statement_effects.specs.State.{Memory}
use Rattle.statement_effects.specs.declared.instruction.CounterOperation.{CounterOperation}
use Rattle.statement_effects.specs.declared.instruction.CounterOperation.TheVariants.{Up, Down, Set, Reset, Enable, Check, Load, LoadCoded}
use Rattle.statement_effects.specs.Areas.{with_status}
use Rattle.statement_effects.specs.MoveEffect.{with_loaded}

abbrev pub counter_at : Memory → ℕ → CounterState
counter_at memory n = slice_index_or memory.counters n fresh

-- the counter changed, with the row of a statement that does so
abbrev pub with_counter : Memory → ℕ → CounterState → Memory
with_counter memory n counter =
    with_status (record memory { counters = slice_set memory.counters n counter }) (timer_row memory.registers.status)

-- S, whose value is in the three digits of ACCU1; a digit above 9 is error 1 where the counter is set
abbrev pub effect_set : ℕ → Memory → Result Memory ℕ
effect_set n memory =
    if sets (counter_at memory n) memory.registers.status.rlo && not (is_bcd (memory.registers.accus.accu1 % 65536))
    then Err 1
    else Ok (with_counter memory n (set_to (counter_at memory n) memory.registers.status.rlo (bcd_value (memory.registers.accus.accu1 % 65536))))

abbrev pub effect_counter : CounterOperation → ℕ → Memory → Result Memory ℕ
effect_counter Up n memory = Ok (with_counter memory n (counted_up (counter_at memory n) memory.registers.status.rlo))
effect_counter Down n memory = Ok (with_counter memory n (counted_down (counter_at memory n) memory.registers.status.rlo))
effect_counter Set n memory = effect_set n memory
effect_counter Reset n memory = Ok (with_counter memory n (reset (counter_at memory n) memory.registers.status.rlo))
effect_counter Enable n memory = Ok (with_counter memory n (enabled (counter_at memory n) memory.registers.status.rlo))
effect_counter (Check how) n memory =
    Ok (with_status memory (checked how (not ((counter_at memory n).value == 0)) memory.registers.status))
effect_counter Load n memory = Ok (with_loaded memory (counter_at memory n).value)
effect_counter LoadCoded n memory = Ok (with_loaded memory (bcd_of (counter_at memory n).value))
