-- What a stored statement means: its operation with its operand.
use Rattle.std.specs.Prelude.{ℕ, ◌%◌, true, false, Option, Some, None}
use Rattle.std.specs.Int.{w16, w32, cast_signed}
use Rattle.std.specs.Option.{option_map, option_or}
use Rattle.s7_base.specs.declared.statement.Statement.{Statement}
use Rattle.s7_base.specs.declared.blocks.BlockRef.{BlockRef}
use Rattle.instruction_set.specs.declared.table.InstructionRow.{InstructionRow}
use Rattle.instruction_set.specs.declared.operation.Operation.{Operation}
use Rattle.instruction_set.specs.declared.operation.Operation.TheVariants as operations
use Rattle.instruction_set.specs.declared.operation.BitWrite.TheVariants as writes
use Rattle.instruction_set.specs.declared.operation.BlockOperation.TheVariants as blocks
use Rattle.instruction_set.specs.declared.operation.Check.{Check}
use Rattle.instruction_set.specs.declared.operation.Word.{Word}
use Rattle.instruction_set.specs.declared.operation.WordSize.{WordSize}
use Rattle.instruction_set.specs.Sizes.{is_wide}
use Rattle.instruction_set.specs.Rows.{row_of}
use Rattle.s7_events.specs.Optional.{◌>>=◌}
use Rattle.statement_effects.specs.declared.instruction.BitInstruction.{BitInstruction}
use Rattle.statement_effects.specs.declared.instruction.BitInstruction.TheVariants as bits
use Rattle.statement_effects.specs.declared.instruction.StatusInstruction.TheVariants as status
use Rattle.statement_effects.specs.declared.instruction.GroupInstruction.TheVariants as brackets
use Rattle.statement_effects.specs.declared.instruction.MoveInstruction.{MoveInstruction}
use Rattle.statement_effects.specs.declared.instruction.MoveInstruction.TheVariants as moves
use Rattle.statement_effects.specs.declared.instruction.DirectInstruction.TheVariants as direct
use Rattle.statement_effects.specs.declared.instruction.AccuInstruction.TheVariants as accus
use Rattle.statement_effects.specs.declared.instruction.NumberInstruction.TheVariants as numbers
use Rattle.statement_effects.specs.declared.instruction.WordInstruction.TheVariants as words
use Rattle.statement_effects.specs.declared.instruction.JumpInstruction.TheVariants as jumps
use Rattle.statement_effects.specs.declared.instruction.TimerOperation.{TimerOperation}
use Rattle.statement_effects.specs.declared.instruction.TimerOperation.TheVariants as timer_ops
use Rattle.statement_effects.specs.declared.instruction.TimedOperation.{TimedOperation}
use Rattle.statement_effects.specs.declared.instruction.TimedOperation.TheVariants as timed_ops
use Rattle.statement_effects.specs.declared.instruction.CounterOperation.{CounterOperation}
use Rattle.statement_effects.specs.declared.instruction.CounterOperation.TheVariants as counter_ops
use Rattle.statement_effects.specs.declared.instruction.DataNumber.{DataNumber}
use Rattle.statement_effects.specs.declared.instruction.DataInstruction.TheVariants as data_blocks
use Rattle.statement_effects.specs.declared.instruction.Access.{Access}
use Rattle.statement_effects.specs.declared.instruction.Instruction.{Instruction}
use Rattle.statement_effects.specs.declared.instruction.Instruction.TheVariants as groups
use Rattle.statement_effects.specs.declared.instruction.Operand.{Operand}
use Rattle.statement_effects.specs.declared.instruction.Operand.TheVariants as operands
use Rattle.statement_effects.specs.Decoding.{operand_for}

-- operations with an operand --

-- with a bit
abbrev pub bit_of : Operation → Option BitInstruction
bit_of (operations.Check how) = Some (bits.Check how)
bit_of (operations.Write how) = Some (bits.Write how)
bit_of (operations.Edge edge) = Some (bits.Edge edge)
bit_of _ = None

-- with a status operand
abbrev pub status_check_of : Operation → Option Check
status_check_of (operations.Check how) = Some how
status_check_of _ = None

-- with a value
abbrev pub move_of : Operation → Option MoveInstruction
move_of operations.Load = Some moves.Load
move_of operations.Transfer = Some moves.Store
move_of _ = None

-- with a value of the peripheral inputs
abbrev pub with_input_access : Operation → Option (Access → Instruction)
with_input_access operations.Load = Some groups.ReadPeripheral
with_input_access _ = None

-- with a value of the peripheral outputs
abbrev pub with_output_access : Operation → Option (Access → Instruction)
with_output_access operations.Transfer = Some groups.WritePeripheral
with_output_access _ = None

-- with the status word
abbrev pub status_word_of : Operation → Option Instruction
status_word_of operations.Load = Some (groups.Direct direct.LoadStatus)
status_word_of operations.Transfer = Some (groups.Direct direct.StoreStatus)
status_word_of _ = None

-- with a timer, apart from its moment
abbrev pub timer_of : Operation → Option TimerOperation
timer_of (operations.Write writes.Reset) = Some timer_ops.Reset
timer_of operations.EnableTimer = Some timer_ops.Enable
timer_of _ = None

-- with a timer at a moment
abbrev pub timed_of : Operation → Option TimedOperation
timed_of (operations.StartTimer kind) = Some (timed_ops.Start kind)
timed_of (operations.Check how) = Some (timed_ops.Check how)
timed_of operations.Load = Some timed_ops.Load
timed_of operations.LoadCoded = Some timed_ops.LoadCoded
timed_of _ = None

-- with a counter
abbrev pub counter_of : Operation → Option CounterOperation
counter_of operations.CountUp = Some counter_ops.Up
counter_of operations.CountDown = Some counter_ops.Down
counter_of (operations.Write writes.Set) = Some counter_ops.Set
counter_of (operations.Write writes.Reset) = Some counter_ops.Reset
counter_of operations.EnableCounter = Some counter_ops.Enable
counter_of (operations.Check how) = Some (counter_ops.Check how)
counter_of operations.Load = Some counter_ops.Load
counter_of operations.LoadCoded = Some counter_ops.LoadCoded
counter_of _ = None

-- logic of words with a constant, or without one with ACCU2
abbrev pub logic : Word → WordSize → Option ℕ → Instruction
logic op size constant = groups.Word (words.Logic op (is_wide size) constant)

-- with a constant of 16 bits; INC, DEC and shifts take its low byte
abbrev pub with_word : Operation → Option (ℕ → Instruction)
with_word operations.Load = Some (λ word. groups.Direct (direct.LoadConstant word))
with_word operations.Increment = Some (λ word. groups.Accu (accus.Count (word % 256) false))
with_word operations.Decrement = Some (λ word. groups.Accu (accus.Count (word % 256) true))
with_word operations.AddConstant = Some (λ word. groups.Accu (accus.Add (cast_signed w16 word) false))
with_word (operations.WordLogic op size) = Some (λ word. logic op size (Some word))
with_word (operations.Shift op) = Some (λ word. groups.Word (words.Shift op (Some (word % 256))))
with_word (operations.NoOperation op) = Some (λ word. groups.Nothing)
with_word _ = None

-- with a constant of 32 bits
abbrev pub with_double_word : Operation → Option (ℕ → Instruction)
with_double_word operations.Load = Some (λ value. groups.Direct (direct.LoadConstant value))
with_double_word operations.AddConstant = Some (λ value. groups.Accu (accus.Add (cast_signed w32 value) true))
with_double_word (operations.WordLogic op size) = Some (λ value. logic op size (Some value))
with_double_word _ = None

-- with a target
abbrev pub with_target : Operation → Option (ℕ → Instruction)
with_target (operations.Jump how) = Some (λ target. groups.Jump (jumps.When how target))
with_target operations.JumpList = Some (λ target. groups.Jump (jumps.List target))
with_target operations.Loop = Some (λ target. groups.Jump (jumps.Loop target))
with_target _ = None

-- with a block that is called
abbrev pub with_block : Operation → Option (BlockRef → Instruction)
with_block (operations.Block blocks.CallFunction) = Some groups.Call
with_block (operations.Block blocks.UnconditionalCallFunction) = Some groups.Call
with_block (operations.Block blocks.UnconditionalCallFunctionBlock) = Some groups.Call
with_block (operations.Block blocks.ConditionalCallFunction) = Some groups.CallWhenSet
with_block (operations.Block blocks.ConditionalCallFunctionBlock) = Some groups.CallWhenSet
with_block _ = None

-- with a system function, which the operation says
abbrev pub system_function_of : Operation → Option Instruction
system_function_of (operations.Block blocks.CallRetrigger) = Some groups.Retrigger
system_function_of (operations.Block blocks.CallStop) = Some groups.Stop
system_function_of _ = None

-- with a function block that is called and the number of its data block
abbrev pub with_block_and_data : Operation → Option (BlockRef → ℕ → Instruction)
with_block_and_data (operations.Block blocks.CallFunctionBlock) = Some groups.CallInstance
with_block_and_data _ = None

-- with a data block that is opened as DB
abbrev pub with_data_block : Operation → Option (ℕ → Instruction)
with_data_block (operations.Block blocks.OpenData) = Some (λ number. groups.Data (data_blocks.Open number))
with_data_block _ = None

-- with a data block that is opened as DI
abbrev pub with_instance_block : Operation → Option (ℕ → Instruction)
with_instance_block (operations.Block blocks.OpenInstance) = Some (λ number. groups.Data (data_blocks.OpenInstance number))
with_instance_block _ = None

-- with the length or the number of an opened data block
abbrev pub with_data_number : Operation → Option (DataNumber → Instruction)
with_data_number operations.Load = Some (λ what. groups.Data (data_blocks.Load what))
with_data_number _ = None

-- alone; of the statements on blocks CDB and the ends
abbrev pub alone : Operation → Option Instruction
alone operations.AndBeforeOr = Some (groups.Status status.OrAlone)
alone (operations.Open how) = Some (groups.Group (brackets.Open how))
alone operations.Close = Some (groups.Group brackets.Close)
alone (operations.Rlo op) = Some (groups.Status (status.Rlo op))
alone (operations.MasterControl op) = Some (groups.Group (brackets.MasterControl op))
alone (operations.Move op) = Some (groups.Accu (accus.Move op))
alone (operations.Number op) = Some (groups.Number (numbers.Work op))
alone (operations.FromBcd size) = Some (groups.Number (numbers.FromBcd (is_wide size)))
alone (operations.ToBcd size) = Some (groups.Number (numbers.ToBcd (is_wide size)))
alone (operations.Compare how size) = Some (groups.Number (numbers.Compare how (is_wide size)))
alone (operations.WordLogic op size) = Some (logic op size None)
alone (operations.Shift op) = Some (groups.Word (words.Shift op None))
alone (operations.Block blocks.ExchangeData) = Some (groups.Data data_blocks.Exchange)
alone (operations.Block blocks.End) = Some groups.End
alone (operations.Block blocks.UnconditionalEnd) = Some groups.End
alone (operations.Block blocks.ConditionalEnd) = Some groups.EndWhenSet
alone _ = None

-- the instruction set: an operation and its operand --

abbrev pub means : Operation → Operand → Option Instruction
means op operands.Nothing = alone op
means op (operands.Bit place) = option_map (λ i. groups.Bit i place) (bit_of op)
means op (operands.Value place) = option_map (λ i. groups.Move i place) (move_of op)
means op (operands.PeripheralIn access) = option_map (λ instruction. instruction access) (with_input_access op)
means op (operands.PeripheralOut access) = option_map (λ instruction. instruction access) (with_output_access op)
means op (operands.Timer n) = option_or (option_map (λ i. groups.Timer i n) (timer_of op)) (option_map (λ i. groups.Timed i n) (timed_of op))
means op (operands.Counter n) = option_map (λ i. groups.Counter i n) (counter_of op)
means op (operands.Word word) = option_map (λ instruction. instruction word) (with_word op)
means op (operands.DoubleWord value) = option_map (λ instruction. instruction value) (with_double_word op)
means op (operands.Target target) = option_map (λ instruction. instruction target) (with_target op)
means op (operands.Status n) = option_map (λ how. groups.Status (status.Check how n)) (status_check_of op)
means op operands.StatusWord = status_word_of op
means op (operands.Block callee) = option_map (λ instruction. instruction callee) (with_block op)
means op operands.SystemFunction = system_function_of op
means op (operands.BlockWithData callee number) = option_map (λ instruction. instruction callee number) (with_block_and_data op)
means op (operands.DataBlock number) = option_map (λ instruction. instruction number) (with_data_block op)
means op (operands.InstanceBlock number) = option_map (λ instruction. instruction number) (with_instance_block op)
means op (operands.DataNumber what) = option_map (λ instruction. instruction what) (with_data_number op)

abbrev pub read_row : Option InstructionRow → Statement → Option Instruction
read_row None s = None
read_row (Some row) s = operand_for row.operand s >>= means row.operation

-- what a stored statement means, if it is one
abbrev pub instruction_of : Statement → Option Instruction
instruction_of s = read_row (row_of s.op) s
