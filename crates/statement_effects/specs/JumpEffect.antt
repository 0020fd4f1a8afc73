-- What jumps, conditional calls and ends of blocks do.
use Rattle.std.specs.Prelude.{ℕ, ◌-◌, ◌%◌, ◌==◌, Bool, true, false, if◌then◌else◌}
use Rattle.s7_base.specs.declared.blocks.BlockRef.{BlockRef}
use Rattle.status_word.specs.declared.status.StatusWord.{StatusWord}
use Rattle.status_word.specs.JumpRows.{taken, jumped, after_jump_row, block_row}
use Rattle.accumulators.specs.declared.accus.Accus.{Accus}
use Rattle.accumulators.specs.declared.parts.Part.TheVariants.{LowWord}
use Rattle.accumulators.specs.Parts.{with_low}
use Rattle.statement_effects.specs.declared.areas.Registers.{Registers}
use Rattle.statement_effects.specs.declared.instruction.JumpInstruction.{JumpInstruction}
use Rattle.statement_effects.specs.declared.instruction.JumpInstruction.TheVariants as jumps
use Rattle.statement_effects.specs.declared.instruction.Flow.{Flow}
use Rattle.statement_effects.specs.declared.instruction.Flow.TheVariants.{Next, Jump, Among, Call, End}

abbrev pub jumps_where : Bool → ℕ → Flow
jumps_where condition target = if condition then Jump target else Next

-- the low word of ACCU1, lowered by 1; below 0 comes 65535
abbrev pub lowered : Accus → ℕ
lowered a = if a.accu1 % 65536 == 0 then 65535 else a.accu1 % 65536 - 1

abbrev pub effect_jump : JumpInstruction → Registers → Registers × Flow
effect_jump (jumps.When how target) r = (record r { status = jumped how r.status }, jumps_where (taken how r.status) target)
effect_jump (jumps.List target) r = (r, Among (r.accus.accu1 % 256) target)
effect_jump (jumps.Loop target) r =
    (record r { accus = record r.accus { accu1 = with_low LowWord r.accus.accu1 (lowered r.accus) } }, if lowered r.accus == 0 then Next else Jump target)

-- CC: the block is called where the RLO is 1, and the RLO is 1 afterwards
abbrev pub effect_call_when_set : BlockRef → Registers → Registers × Flow
effect_call_when_set callee r = if r.status.rlo then (r, Call callee) else (record r { status = after_jump_row false true r.status }, Next)

-- BE and BEU
abbrev pub effect_end : StatusWord → StatusWord
effect_end s = block_row s

-- BEC: the block ends where the RLO is 1, and the RLO is 1 afterwards
abbrev pub effect_end_when_set : Registers → Registers × Flow
effect_end_when_set r =
    if r.status.rlo then (record r { status = block_row r.status }, End) else (record r { status = after_jump_row false true r.status }, Next)
