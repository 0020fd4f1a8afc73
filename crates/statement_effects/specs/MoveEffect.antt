-- What loads, transfers and the moves between accumulators do.
use Rattle.std.specs.Prelude.{ℕ, ◌%◌, ◌^◌, if◌then◌else◌}
use Rattle.status_word.specs.Status.{bits_of, status_of}
use Rattle.accumulators.specs.declared.accus.Accus.{Accus}
use Rattle.accumulators.specs.Moves.{loaded, moved, constant_added, byte_counted}
use Rattle.statement_effects.specs.State.{Memory}
use Rattle.statement_effects.specs.declared.instruction.MoveInstruction.{MoveInstruction}
use Rattle.statement_effects.specs.declared.instruction.MoveInstruction.TheVariants.{Load, Store}
use Rattle.statement_effects.specs.declared.instruction.DirectInstruction.{DirectInstruction}
use Rattle.statement_effects.specs.declared.instruction.DirectInstruction.TheVariants.{LoadConstant, LoadStatus, StoreStatus}
use Rattle.statement_effects.specs.declared.instruction.ValueOperand.{ValueOperand}
use Rattle.statement_effects.specs.declared.instruction.AccuInstruction.{AccuInstruction}
use Rattle.statement_effects.specs.declared.instruction.AccuInstruction.TheVariants as accus
use Rattle.statement_effects.specs.Areas.{value_at, with_value_at, with_accus, with_status, is_off}

-- L of a value
abbrev pub with_loaded : Memory → ℕ → Memory
with_loaded memory value = with_accus memory (loaded value memory.registers.accus)

-- what T writes: ACCU1, and 0 in a zone that is off
abbrev pub transferred : Memory → ℕ
transferred memory = if is_off memory then 0 else memory.registers.accus.accu1

-- L and T of the value at a place
abbrev pub effect_move : MoveInstruction → ValueOperand → Memory → Memory
effect_move Load place memory = with_loaded memory (value_at memory place)
effect_move Store place memory = with_value_at memory place (transferred memory)

-- L and T without a place
abbrev pub effect_direct : DirectInstruction → Memory → Memory
effect_direct (LoadConstant value) memory = with_loaded memory value
effect_direct LoadStatus memory = with_loaded memory (bits_of memory.registers.status)
effect_direct StoreStatus memory = with_status memory (status_of (transferred memory % 2 ^ 9))

-- the statements on accumulators that leave the status word
abbrev pub effect_accu : AccuInstruction → Accus → Accus
effect_accu (accus.Move op) a = moved op a
effect_accu (accus.Count by down) a = byte_counted by down a
effect_accu (accus.Add value wide) a = constant_added value wide a
