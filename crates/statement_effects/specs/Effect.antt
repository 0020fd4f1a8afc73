-- What each statement does to what the statements see, and where it leads: one row a group.
use Rattle.std.specs.Prelude.{ℕ, Bool, true, false, Option, Some, None, Result, Ok, Err}
use Rattle.s7_base.specs.declared.statement.Statement.{Statement}
use Rattle.statement_effects.specs.declared.areas.Registers.{Registers}
use Rattle.statement_effects.specs.State.{Memory}
use Rattle.statement_effects.specs.declared.instruction.Instruction.{Instruction}
use Rattle.statement_effects.specs.declared.instruction.Instruction.TheVariants as groups
use Rattle.statement_effects.specs.declared.instruction.Flow.{Flow}
use Rattle.statement_effects.specs.declared.instruction.Flow.TheVariants.{Next, Call, CallInstance, End, Fail, AskNow, AskRetrigger, AskRead, AskWrite, Stop}
use Rattle.statement_effects.specs.Areas.{with_registers, with_status, with_accus}
use Rattle.statement_effects.specs.Resolving.{resolve_bit, resolve_value, at_bit, at_value}
use Rattle.statement_effects.specs.BitEffect.{effect_bit, effect_status, effect_group}
use Rattle.statement_effects.specs.MoveEffect.{effect_move, effect_direct, effect_accu}
use Rattle.statement_effects.specs.NumberEffect.{effect_number, effect_word}
use Rattle.statement_effects.specs.JumpEffect.{effect_jump, effect_call_when_set, effect_end, effect_end_when_set}
use Rattle.statement_effects.specs.TimerEffect.{effect_timer}
use Rattle.statement_effects.specs.CounterEffect.{effect_counter}
use Rattle.statement_effects.specs.DataEffect.{effect_data}
use Rattle.statement_effects.specs.Reading.{instruction_of}

-- the next statement follows over the new memory; a statement that fails changes nothing
abbrev pub onward : Memory → Result Memory ℕ → Memory × Flow
onward memory (Ok after) = (after, Next)
onward memory (Err error) = (memory, Fail error)

-- the same over new registers
abbrev pub onward_with : Memory → Result Registers ℕ → Memory × Flow
onward_with memory (Ok registers) = (with_registers memory registers, Next)
onward_with memory (Err error) = (memory, Fail error)

abbrev pub led : Memory → Registers × Flow → Memory × Flow
led memory after = (with_registers memory after.0, after.1)

abbrev pub effect : Instruction → Memory → Memory × Flow
effect (groups.Bit i operand) memory = onward memory (at_bit (effect_bit i) (resolve_bit operand memory))
effect (groups.Status i) memory = (with_status memory (effect_status i memory.registers.status), Next)
effect (groups.Group i) memory = onward_with memory (effect_group i memory.registers)
effect (groups.Move i operand) memory = onward memory (at_value (effect_move i) (resolve_value operand memory))
effect (groups.Direct i) memory = (effect_direct i memory, Next)
effect (groups.Accu i) memory = (with_accus memory (effect_accu i memory.registers.accus), Next)
effect (groups.Number i) memory = onward_with memory (effect_number i memory.registers)
effect (groups.Word i) memory = (with_registers memory (effect_word i memory.registers), Next)
effect (groups.Jump i) memory = led memory (effect_jump i memory.registers)
effect (groups.Timer op n) memory = (effect_timer op n memory, Next)
effect (groups.Timed op n) memory = (memory, AskNow)
effect (groups.Counter op n) memory = onward memory (effect_counter op n memory)
effect (groups.Data i) memory = onward memory (effect_data i memory)
effect (groups.ReadPeripheral access) memory = (memory, AskRead access)
effect (groups.WritePeripheral access) memory = (memory, AskWrite access)
effect (groups.Call callee) memory = (memory, Call callee)
effect (groups.CallInstance callee number) memory = (memory, CallInstance callee number)
effect (groups.CallWhenSet callee) memory = led memory (effect_call_when_set callee memory.registers)
effect groups.End memory = (with_status memory (effect_end memory.registers.status), End)
effect groups.EndWhenSet memory = led memory (effect_end_when_set memory.registers)
effect groups.Retrigger memory = (memory, AskRetrigger)
effect groups.Stop memory = (memory, Stop)
effect groups.Nothing memory = (memory, Next)

-- the statement asks first, and does what it does once it is answered
abbrev pub asks_first : Flow → Bool
asks_first AskNow = true
asks_first AskRetrigger = true
asks_first (AskRead access) = true
asks_first (AskWrite access) = true
asks_first _ = false

-- a stored form that is no statement does nothing; well-formed blocks have none
abbrev pub effect_if : Option Instruction → Memory → Memory × Flow
effect_if None memory = (memory, Next)
effect_if (Some instruction) memory = effect instruction memory

abbrev pub effect_of : Statement → Memory → Memory × Flow
effect_of statement memory = effect_if (instruction_of statement) memory
