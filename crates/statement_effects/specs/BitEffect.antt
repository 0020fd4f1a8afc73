-- What the bit statements do: those on a bit of an area, those on the status word alone, brackets and zones.
use Rattle.std.specs.Prelude.{ℕ, Bool, true, false, not, ◌&&◌, if◌then◌else◌, unwrap_or, Result, Ok, Err, slice_get}
use Rattle.instruction_set.specs.declared.operation.BitWrite.TheVariants as writes
use Rattle.instruction_set.specs.declared.operation.Edge.{Edge}
use Rattle.instruction_set.specs.declared.operation.Edge.TheVariants as edges
use Rattle.instruction_set.specs.declared.operation.RloOperation.TheVariants as rlo
use Rattle.instruction_set.specs.declared.operation.MasterControl.TheVariants as mcr
use Rattle.status_word.specs.declared.status.StatusWord.{StatusWord}
use Rattle.status_word.specs.BitRows.{checked, or_row, write_row, not_row, set_row, clear_row, save_row, edged, edge_bit}
use Rattle.status_word.specs.JumpRows.{operands}
use Rattle.bit_unit.specs.declared.unit.BitFault.{BitFault}
use Rattle.bit_unit.specs.declared.unit.BitFault.TheVariants.{NestingFull, NestingEmpty, McrFull, McrEmpty}
use Rattle.bit_unit.specs.Steps.{Step, group_opened, group_closed, zone_opened, zone_closed}
use Rattle.statement_effects.specs.declared.areas.Registers.{Registers}
use Rattle.statement_effects.specs.State.{Memory}
use Rattle.statement_effects.specs.declared.instruction.BitOperand.{BitOperand}
use Rattle.statement_effects.specs.declared.instruction.BitInstruction.{BitInstruction}
use Rattle.statement_effects.specs.declared.instruction.BitInstruction.TheVariants as bits
use Rattle.statement_effects.specs.declared.instruction.StatusInstruction.{StatusInstruction}
use Rattle.statement_effects.specs.declared.instruction.StatusInstruction.TheVariants as status
use Rattle.statement_effects.specs.declared.instruction.GroupInstruction.{GroupInstruction}
use Rattle.statement_effects.specs.declared.instruction.GroupInstruction.TheVariants as groups
use Rattle.statement_effects.specs.Areas.{bit_at, with_bit_at, with_status, is_off}

-- the bit at a place is set where this holds
abbrev pub with_bit_where : Bool → Memory → BitOperand → Bool → Memory
with_bit_where condition memory place value = if condition then with_bit_at memory place value else memory

abbrev pub is_rising : Edge → Bool
is_rising edges.Rising = true
is_rising edges.Falling = false

-- a statement on the bit at a place: in a zone that is off `=` writes 0, and S and R write nothing
abbrev pub effect_bit : BitInstruction → BitOperand → Memory → Memory
effect_bit (bits.Check how) place memory =
    with_status memory (checked how (bit_at memory place) memory.registers.status)
effect_bit (bits.Write writes.Assign) place memory =
    with_status (with_bit_at memory place (memory.registers.status.rlo && not (is_off memory))) (write_row memory.registers.status)
effect_bit (bits.Write writes.Set) place memory =
    with_status (with_bit_where (memory.registers.status.rlo && not (is_off memory)) memory place true) (write_row memory.registers.status)
effect_bit (bits.Write writes.Reset) place memory =
    with_status (with_bit_where (memory.registers.status.rlo && not (is_off memory)) memory place false) (write_row memory.registers.status)
effect_bit (bits.Edge edge) place memory =
    with_status (with_bit_at memory place (edge_bit memory.registers.status)) (edged (is_rising edge) (bit_at memory place) memory.registers.status)

-- the status operand of a number
abbrev pub status_operand : StatusWord → ℕ → Bool
status_operand s number = unwrap_or (slice_get (operands s) number) false

-- a statement on the status word alone
abbrev pub effect_status : StatusInstruction → StatusWord → StatusWord
effect_status (status.Check how number) s = checked how (status_operand s number) s
effect_status status.OrAlone s = or_row s
effect_status (status.Rlo rlo.NegateRlo) s = not_row s
effect_status (status.Rlo rlo.SetRlo) s = set_row s
effect_status (status.Rlo rlo.ClearRlo) s = clear_row s
effect_status (status.Rlo rlo.SaveRlo) s = save_row s

-- the error of a bracket that is refused
abbrev pub error_of : BitFault → ℕ
error_of NestingFull = 3
error_of NestingEmpty = 4
error_of McrFull = 5
error_of McrEmpty = 6

-- the registers after a step of the bit unit, or its error
abbrev pub stepped : Step → Registers → Result Registers ℕ
stepped (Ok bits) registers = Ok (record registers { unit = bits.0; status = bits.1 })
stepped (Err fault) registers = Err (error_of fault)

-- a bracket, or the activation of the MCR, which changes no status bit
abbrev pub effect_group : GroupInstruction → Registers → Result Registers ℕ
effect_group (groups.Open how) r = stepped (group_opened how r.unit r.status) r
effect_group groups.Close r = stepped (group_closed r.unit r.status) r
effect_group (groups.MasterControl mcr.OpenZone) r = stepped (zone_opened r.unit r.status) r
effect_group (groups.MasterControl mcr.CloseZone) r = stepped (zone_closed r.unit r.status) r
effect_group (groups.MasterControl mcr.Activate) r = Ok (record r { unit = record r.unit { active = true } })
effect_group (groups.MasterControl mcr.Deactivate) r = Ok (record r { unit = record r.unit { active = false } })
