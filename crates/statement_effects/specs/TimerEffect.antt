-- What the statements on timers do. The moment is that of the answer to the request for it.
use Rattle.std.specs.Prelude.{ℕ, ◌%◌, Bool, ◌&&◌, not, if◌then◌else◌, Result, Ok, Err, slice_index_or, slice_set}
use Rattle.status_word.specs.BitRows.{checked, timer_row}
use Rattle.s5_time.specs.Bcd.{is_bcd}
use Rattle.s5_time.specs.Duration.{duration_of, word_of}
use Rattle.instruction_set.specs.declared.operation.TimerKind.{TimerKind}
use Rattle.timers.specs.Rule.{output, rest, starts, started, reset, enabled}
use Rattle.timers.specs.State.{TimerState, fresh}
use Rattle.statement_effects.specs.State.{Memory}
use Rattle.statement_effects.specs.declared.instruction.TimerOperation.{TimerOperation}
use Rattle.statement_effects.specs.declared.instruction.TimerOperation.TheVariants as plain
use Rattle.statement_effects.specs.declared.instruction.TimedOperation.{TimedOperation}
use Rattle.statement_effects.specs.declared.instruction.TimedOperation.TheVariants as timed
use Rattle.statement_effects.specs.Areas.{with_status}
use Rattle.statement_effects.specs.MoveEffect.{with_loaded}

abbrev pub timer_at : Memory → ℕ → TimerState
timer_at memory n = slice_index_or memory.timers n fresh

abbrev pub with_timer : Memory → ℕ → TimerState → Memory
with_timer memory n timer = record memory { timers = slice_set memory.timers n timer }

-- the timer after R or FR
abbrev pub timer_after : TimerOperation → Bool → TimerState → TimerState
timer_after plain.Reset rlo timer = reset timer rlo
timer_after plain.Enable rlo timer = enabled timer rlo

abbrev pub effect_timer : TimerOperation → ℕ → Memory → Memory
effect_timer op n memory =
    with_status (with_timer memory n (timer_after op memory.registers.status.rlo (timer_at memory n))) (timer_row memory.registers.status)

-- a start, whose preset is the S5TIME in the low word of ACCU1; a digit above 9 is error 1 where a run begins
abbrev pub effect_start : TimerKind → ℕ → ℕ → Memory → Result Memory ℕ
effect_start kind n moment memory =
    if starts (timer_at memory n) kind memory.registers.status.rlo moment && not (is_bcd (memory.registers.accus.accu1 % 65536))
    then Err 1
    else Ok (with_status
    (with_timer memory n (started (timer_at memory n) kind memory.registers.status.rlo (duration_of (memory.registers.accus.accu1 % 65536)) moment))
    (timer_row memory.registers.status))

-- a statement on a timer at a moment
abbrev pub effect_timed : TimedOperation → ℕ → ℕ → Memory → Result Memory ℕ
effect_timed (timed.Start kind) n moment memory = effect_start kind n moment memory
effect_timed (timed.Check how) n moment memory =
    Ok (with_status memory (checked how (output (timer_at memory n) moment) memory.registers.status))
effect_timed timed.Load n moment memory = Ok (with_loaded memory (rest (timer_at memory n) moment).units)
effect_timed timed.LoadCoded n moment memory = Ok (with_loaded memory (word_of (rest (timer_at memory n) moment)))
