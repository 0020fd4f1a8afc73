-- The standard CPU: what a program means, by one recursion over places and answers.
use Rattle.std.specs.Prelude.{ℕ, zero, suc, ◌+◌, ◌-◌, ◌*◌, ◌%◌, ◌^◌, ◌==◌, Bool, true, false, nat_lt, if◌then◌else◌, ◌&&◌, ◌||◌, List, [], ◌∷◌, ◌++◌, length, Option, Some, None, Result, Ok, Err, slice_get}
use Rattle.s7_base.specs.declared.statement.Statement.{Statement}
use Rattle.s7_base.specs.declared.blocks.BlockRef.{BlockRef}
use Rattle.s7_base.specs.declared.blocks.CodeKind.{CodeKind}
use Rattle.s7_base.specs.declared.blocks.CodeKind.TheVariants.{Ob, Fb, Fc}
use Rattle.s7_events.specs.declared.entry.Side.{Side}
use Rattle.s7_events.specs.declared.entry.Loss.{Loss}
use Rattle.s7_events.specs.declared.entry.Loss.TheVariants.{Failed, Suspect}
use Rattle.s7_events.specs.declared.entry.Ask.{Ask}
use Rattle.s7_events.specs.declared.entry.Ask.TheVariants as asks
use Rattle.s7_events.specs.declared.entry.Request.{Request}
use Rattle.s7_events.specs.declared.entry.Answer.{Answer}
use Rattle.s7_events.specs.declared.entry.Answer.TheVariants as answers
use Rattle.s7_events.specs.declared.diagnostics.DiagCode.{DiagCode}
use Rattle.s7_events.specs.declared.diagnostics.DiagCode.TheVariants as notes
use Rattle.s7_base.specs.Blocks.{Code, Program, code_of}
use Rattle.diag_buffer.specs.declared.note.Note.{Note}
use Rattle.s7_events.specs.Fitting.{fits}
use Rattle.s7_events.specs.Priorities.{is_process, priority_of}
use Rattle.s7_events.specs.declared.entry.StopCode.{StopCode}
use Rattle.s7_events.specs.declared.entry.StopCode.TheVariants as stops
use Rattle.bit_unit.specs.State.{cleared_unit}
use Rattle.level_stack.specs.declared.level.LevelFault.{LevelFault}
use Rattle.level_stack.specs.declared.level.LevelFault.TheVariants.{DepthReached, LocalFull}
use Rattle.cpu_image.specs.Pages as image_pages
use Rattle.level_stack.specs.StartInfo.{start_bytes}
use Rattle.statement_effects.specs.State.{Memory}
use Rattle.statement_effects.specs.Levels.{priority_in, with_level, entered, with_start, without_block}
use Rattle.statement_effects.specs.declared.areas.Registers.{Registers}
use Rattle.mc_machine.specs.declared.places.Cause.{Cause}
use Rattle.mc_machine.specs.declared.places.Cause.TheVariants.{CpuStarted, CycleBegan, StatementFailed, AlarmCame, BlockMissing}
use Rattle.mc_machine.specs.Places.{Level, Mode, Fresh, Ticking, Timing, Retriggering, Reading, Writing, Place, AtOutputs, AtInputs, AtCycle, AtReply, AtStop, Over, At, Kept, Whole, Brackets, Frame}
use Rattle.statement_effects.specs.declared.instruction.Instruction.{Instruction}
use Rattle.statement_effects.specs.declared.instruction.Instruction.TheVariants.{Timed, Retrigger}
use Rattle.statement_effects.specs.declared.instruction.Flow.{Flow}
use Rattle.statement_effects.specs.declared.instruction.Flow.TheVariants as flow
use Rattle.statement_effects.specs.declared.instruction.Access.{Access}
use Rattle.statement_effects.specs.AccessEffect.{access_in, value_put, put_out}
use Rattle.statement_effects.specs.MoveEffect.{with_loaded}
use Rattle.statement_effects.specs.Areas.{bytes_in, clear_registers, with_registers, with_status, data_length, start_memory}
use Rattle.statement_effects.specs.Reading.{instruction_of}
use Rattle.statement_effects.specs.TimerEffect.{effect_timed}
use Rattle.statement_effects.specs.Effect.{effect_of}
use Rattle.statement_effects.specs.JumpEffect.{effect_end}
use Rattle.statement_effects.specs.JobEffect.{job_done}

-- the cycles so far: the moment at which the last one began, when its output image had been put out, 0 before any; how
-- long the one before it took, in milliseconds, at most 32,767, and 0 in the first; and whether the first one is over
pub record Cycles : Type 0 where
  pub began_at : ℕ
  pub last_length : ℕ
  pub first_over : Bool

-- how far a CPU has come: its program, what the statements see, the statements completed since the last answer,
-- the cycles, all diagnostic entries, and how many answers it has taken
pub record State : Type 0 where
  pub program : Program
  pub memory : Memory
  pub since : ℕ
  pub cycles : Cycles
  pub notes : List Note
  pub taken : ℕ

-- how a run ends: no answer is left at a request; or the CPU has stopped; or the block has ended, with these
-- answers left; or an answer did not fit
pub data End : Type 0 where
  Waits : (request : Request) (state : State) → End
  Stopped : (state : State) → End
  Left : (state : State) (answers : List Answer) → End
  Undefined : End

-- what follows, from a state and the answers left
abbrev pub Rest : Type 0
Rest = State → List Answer → End

-- what a place means, given what follows where its block ends
abbrev pub Meaning : Type 0
Meaning = Place → Rest → Rest

-- where a statement or an answer leads: to a place, or into a block and at its end to the place of the frame; into an
-- organisation block, by its number and the level that it runs on, with start information that says why
pub data Move : Type 0 where
  Goes : (memory : Memory) (place : Place) → Move
  Calls : (memory : Memory) (place : Place) (frame : Frame) → Move
  Begins : (memory : Memory) (number : ℕ) (level : Level) (cause : Cause) (frame : Frame) → Move

-- what happens at a place: the CPU asks; or a statement is completed; or it is not, and the CPU asks to stop; or the block
-- ends; or the CPU has stopped. A statement may make a diagnostic entry
pub data Turn : Type 0 where
  Asks : (request : Request) → Turn
  Moves : (note : Option DiagCode) (move : Move) → Turn
  Halts : (note : Option DiagCode) (memory : Memory) (code : StopCode) → Turn
  Leaves : Turn
  Ends : Turn

-- what an answer does: perhaps a diagnostic entry is made, and then the CPU is elsewhere; or the statement that asked is
-- completed by it, and that is a turn which moves or halts
pub data Reaction : Type 0 where
  Again : (note : Option DiagCode) (move : Move) → Reaction
  Completes : (turn : Turn) → Reaction

abbrev pub request_of : Ask → ℕ → Request
request_of ask prio = record { prio = prio; ask = ask }

abbrev pub statements_in : Option Code → List Statement
statements_in None = []
statements_in (Some code) = code.statements

-- the statements of a block, none where it is not loaded
abbrev pub statements_of : Program → BlockRef → List Statement
statements_of program block = statements_in (code_of program block.kind block.number)

-- the jump of a number, from 0, of those that follow a statement, or past the last of them the target
abbrev pub jump_among : ℕ → ℕ → ℕ → ℕ
jump_among at number target = if nat_lt (at + 1 + number) target then at + 1 + number else target

-- blocks and levels --

-- the local bytes of a code block: those of its temporary data, an OB's at least the 20 of its start information
abbrev pub local_bytes_for : CodeKind → ℕ → ℕ
local_bytes_for Ob temp = if nat_lt temp 20 then 20 else temp
local_bytes_for Fb temp = temp
local_bytes_for Fc temp = temp

abbrev pub local_bytes_of : Code → ℕ
local_bytes_of code = local_bytes_for code.kind code.temp

-- an organisation block that is not loaded has those of its start information
abbrev pub local_bytes_in : Option Code → ℕ
local_bytes_in None = 20
local_bytes_in (Some code) = local_bytes_of code

-- the stop where a block cannot begin: 24 blocks have begun on the level, or they have 256 local bytes
abbrev pub stop_of : LevelFault → StopCode
stop_of DepthReached = stops.Depth
stop_of LocalFull = stops.Local

abbrev pub or_stop : Result Memory LevelFault → Result Memory StopCode
or_stop (Ok memory) = Ok memory
or_stop (Err fault) = Err (stop_of fault)

-- a block begins on the level that runs, with its local data
abbrev pub block_entered : Memory → BlockRef → Code → Result Memory StopCode
block_entered memory block code = or_stop (entered memory block (local_bytes_of code))

-- the same, unless it is not loaded
abbrev pub entered_if : StopCode → Memory → BlockRef → Option Code → Result Memory StopCode
entered_if missing memory block None = Err missing
entered_if missing memory block (Some code) = block_entered memory block code

-- organisation blocks --

abbrev pub organisation_block : ℕ → BlockRef
organisation_block number = record { kind = Ob; number = number }

-- byte 1 of the start information: of OB100 and of the first OB1 it is 1, of each later OB1 3, of an error OB the error, and else 0
abbrev pub start_byte : Bool → Cause → ℕ
start_byte first_over CpuStarted = 1
start_byte first_over CycleBegan = if first_over then 3 else 1
start_byte first_over (StatementFailed error) = error
start_byte first_over (AlarmCame info) = 0
start_byte first_over (BlockMissing number) = 0

-- the info in it: of OB1 how long the cycle before took; of the OB of an alarm that of the alarm; of OB85 the number of the block that
-- is missing
abbrev pub start_value : ℕ → Cause → ℕ
start_value last_length CpuStarted = 0
start_value last_length CycleBegan = last_length
start_value last_length (StatementFailed error) = 0
start_value last_length (AlarmCame info) = info
start_value last_length (BlockMissing number) = number

-- the moment in it: that of the last answer, of which it has the low 32 bits, and none of OB1
abbrev pub start_moment : ℕ → Cause → ℕ
start_moment at CpuStarted = at % 2 ^ 32
start_moment at CycleBegan = 0
start_moment at (StatementFailed error) = at % 2 ^ 32
start_moment at (AlarmCame info) = at % 2 ^ 32
start_moment at (BlockMissing number) = at % 2 ^ 32

-- the start information of an organisation block on a level of a priority, where the last answer was that of this moment
abbrev pub start_information : Cycles → ℕ → ℕ → ℕ → Cause → List ℕ
start_information cycles at number priority cause =
    start_bytes (start_byte cycles.first_over cause) priority number (start_value cycles.last_length cause) (start_moment at cause)

-- errors --

-- the OB of an error: that of a direct access is OB122
abbrev pub error_ob : ℕ → ℕ
error_ob error = if error == 9 then 122 else 121

-- where it is not loaded
abbrev pub no_error_ob : ℕ → StopCode
no_error_ob error = if error == 9 then stops.NoOb122 else stops.NoOb121

abbrev pub error_block : ℕ → BlockRef
error_block error = organisation_block (error_ob error)

-- the OB of an error begins on the level of the block that failed. Inside an error OB, or in a block that it called, there is
-- none
abbrev pub error_entered : Program → Level → Memory → ℕ → Result Memory StopCode
error_entered program level memory error =
    if level.in_error then Err stops.InError
    else entered_if (no_error_ob error) memory (error_block error) (code_of program Ob (error_ob error))

-- an error OB begins with the accumulators of the block that failed, and with the data blocks that it had opened
abbrev pub error_registers : Registers → Registers
error_registers registers = record clear_registers { accus = registers.accus; «data» = registers.«data» }

-- a statement failed: a diagnostic entry is made, and the error OB begins, or the CPU asks to stop
abbrev pub failed : Place → Level → Memory → ℕ → Result Memory StopCode → Turn
failed next level memory error (Err code) = Halts (Some (notes.Error error)) memory code
failed next level memory error (Ok inside) =
    Moves (Some (notes.Error error))
    (Begins (with_registers inside (error_registers memory.registers)) (error_ob error) (record level { in_error = true }) (StatementFailed error) (record { place = next; kept = Whole memory.registers }))

-- a statement fails that another place follows
abbrev pub fails : Program → Place → Level → Memory → ℕ → Turn
fails program next level memory error = failed next level memory error (error_entered program level memory error)

-- calls --

-- a called block begins with the status row of a call, no group and no zone open, the MCR not active, and the data blocks that are
-- opened
abbrev pub call_registers : Registers → Registers
call_registers registers = record registers { status = effect_end registers.status; unit = cleared_unit }

-- a function block that is called with a data block begins with that opened as DI
abbrev pub instance_registers : Registers → ℕ → Registers
instance_registers registers number =
    record (call_registers registers) { «data» = record registers.«data» { instance = Some number } }

-- a called block begins with some registers, and at its end another place goes on; or there is no depth or local data left, and the
-- CPU asks to stop
abbrev pub begun : Place → Level → Memory → Registers → BlockRef → Result Memory StopCode → Turn
begun next level memory registers callee (Err code) = Halts None memory code
begun next level memory registers callee (Ok inside) =
    Moves None
    (Calls (with_registers inside registers) (At callee 0 level Fresh) (record { place = next; kept = Brackets memory.registers.unit memory.registers.«data» }))

-- a block is called, at whose end another place goes on; one that is not loaded is error 7
abbrev pub called : Program → Place → Level → Memory → BlockRef → Option Code → Turn
called program next level memory callee None = fails program next level memory 7
called program next level memory callee (Some code) = begun next level memory (call_registers memory.registers) callee (block_entered memory callee code)

abbrev pub calls : Program → Place → Level → Memory → BlockRef → Turn
calls program next level memory callee = called program next level memory callee (code_of program callee.kind callee.number)

-- a function block is called with a data block; one that is not loaded is error 7, and a data block that is not loaded error 8
abbrev pub called_instance : Program → Place → Level → Memory → BlockRef → ℕ → Option Code → Option ℕ → Turn
called_instance program next level memory callee number None size = fails program next level memory 7
called_instance program next level memory callee number (Some code) None = fails program next level memory 8
called_instance program next level memory callee number (Some code) (Some size) =
    begun next level memory (instance_registers memory.registers number) callee (block_entered memory callee code)

abbrev pub calls_instance : Program → Place → Level → Memory → BlockRef → ℕ → Turn
calls_instance program next level memory callee number =
    called_instance program next level memory callee number (code_of program callee.kind callee.number) (data_length memory number)

-- the statements --

-- the request of a direct access: to read
abbrev pub read_of : Access → Ask
read_of access = asks.ReadP access.addr (bytes_in access.width)

-- to write the value that T writes
abbrev pub write_of : Access → Memory → Ask
write_of access memory = asks.WriteP access.addr (bytes_in access.width) (value_put memory access.width)

-- where a statement leads
abbrev pub flows : Program → BlockRef → ℕ → Level → Memory → Flow → Turn
flows program block at level memory flow.Next = Moves None (Goes memory (At block (at + 1) level Fresh))
flows program block at level memory (flow.Jump target) = Moves None (Goes memory (At block target level Fresh))
flows program block at level memory (flow.Among number target) = Moves None (Goes memory (At block (jump_among at number target) level Fresh))
flows program block at level memory (flow.Call callee) = calls program (At block (at + 1) level Fresh) level memory callee
flows program block at level memory (flow.CallInstance callee number) = calls_instance program (At block (at + 1) level Fresh) level memory callee number
flows program block at level memory flow.End = Moves None (Goes memory (At block (length (statements_of program block)) level Fresh))
flows program block at level memory (flow.Fail error) = fails program (At block (at + 1) level Fresh) level memory error
flows program block at level memory flow.AskNow = Asks (request_of asks.Now (priority_in memory))
flows program block at level memory flow.AskRetrigger = Asks (request_of asks.Retrigger (priority_in memory))
flows program block at level memory (flow.AskRead access) = Asks (request_of (read_of access) (priority_in memory))
flows program block at level memory (flow.AskWrite access) = Asks (request_of (write_of access memory) (priority_in memory))
flows program block at level memory flow.Stop = Halts None memory stops.Sfc46

-- the statement at a place, unless 256 statements were completed since the last answer; after the last the block ends
abbrev pub runs : Program → BlockRef → ℕ → Level → ℕ → Memory → Option Statement → Turn
runs program block at level since memory None = Leaves
runs program block at level since memory (Some statement) =
    if nat_lt since 256 then flows program block at level (effect_of statement memory).0 (effect_of statement memory).1 else Asks (request_of asks.Tick (priority_in memory))

abbrev pub stop_request : StopCode → Request
stop_request code = request_of (asks.Stop code) 30

abbrev pub turn_of : Program → ℕ → Memory → Place → Turn
turn_of program since memory AtOutputs = Asks (request_of (asks.Outputs memory.image.outputs) 1)
turn_of program since memory AtInputs = Asks (request_of asks.Inputs 1)
turn_of program since memory AtCycle = Asks (request_of asks.Cycle 1)
turn_of program since memory (AtReply value) = Asks (request_of (asks.Reply value) 1)
turn_of program since memory (AtStop code) = Asks (stop_request code)
turn_of program since memory Over = Ends
turn_of program since memory (At block at level Fresh) = runs program block at level since memory (slice_get (statements_of program block) at)
turn_of program since memory (At block at level Ticking) = Asks (request_of asks.Tick (priority_in memory))
turn_of program since memory (At block at level Timing) = Asks (request_of asks.Now (priority_in memory))
turn_of program since memory (At block at level Retriggering) = Asks (request_of asks.Retrigger (priority_in memory))
turn_of program since memory (At block at level (Reading access)) = Asks (request_of (read_of access) (priority_in memory))
turn_of program since memory (At block at level (Writing access)) = Asks (request_of (write_of access memory) (priority_in memory))

-- the answers --

abbrev pub main_block : BlockRef
main_block = organisation_block 1

abbrev pub lost_note : Side → Loss → DiagCode
lost_note side Failed = notes.LostFailed side
lost_note side Suspect = notes.LostSuspect side

-- how a block makes a request again
abbrev pub again_mode : Ask → Mode → Mode
again_mode asks.Tick mode = Ticking
again_mode asks.Now mode = Timing
again_mode asks.Retrigger mode = Retriggering
again_mode (asks.ReadP addr width) mode = Reading (access_in addr width)
again_mode (asks.WriteP addr width value) mode = Writing (access_in addr width)
again_mode _ mode = mode

-- a request that is not ended is made again as it is
abbrev pub again : Ask → Place → Place
again ask (At block at level mode) = At block at level (again_mode ask mode)
again ask AtOutputs = AtOutputs
again ask AtInputs = AtInputs
again ask AtCycle = AtCycle
again ask (AtReply value) = AtReply value
again ask (AtStop code) = AtStop code
again ask Over = Over

-- a block goes on with its statement
abbrev pub resumed : Place → Place
resumed (At block at level mode) = At block at level Fresh
resumed AtOutputs = AtOutputs
resumed AtInputs = AtInputs
resumed AtCycle = AtCycle
resumed (AtReply value) = AtReply value
resumed (AtStop code) = AtStop code
resumed Over = Over

abbrev pub with_inputs : Memory → List ℕ → Memory
with_inputs memory image = record memory { image = image_pages.with_inputs memory.image image }

-- the end of OB1 leads to the end of the cycle, with the registers that it began over
abbrev pub cycle_frame : Frame
cycle_frame = record { place = AtCycle; kept = Whole clear_registers }

-- OB1 runs on a level of its own
abbrev pub main_level : Level
main_level = record { in_error = false }

abbrev pub main_entered : Program → Memory → Result Memory StopCode
main_entered program memory = or_stop (entered (with_level memory (priority_of 1)) main_block (local_bytes_in (code_of program Ob 1)))

abbrev pub main_begun : Memory → Result Memory StopCode → Move
main_begun memory (Ok inside) = Begins inside 1 main_level CycleBegan cycle_frame
main_begun memory (Err code) = Goes memory (AtStop code)

-- OB1 begins over the input image that was answered
abbrev pub begins_main : Program → Memory → List ℕ → Move
begins_main program memory image =
    let before : Memory = with_registers (with_inputs memory image) clear_registers in
    main_begun before (main_entered program before)

-- a statement that asked is completed by the answer, or fails
abbrev pub asked_outcome : Program → BlockRef → ℕ → Level → Memory → Result Memory ℕ → Turn
asked_outcome program block at level memory (Ok after) = Moves None (Goes after (At block (at + 1) level Fresh))
asked_outcome program block at level memory (Err error) = fails program (At block (at + 1) level Fresh) level memory error

abbrev pub timed_by : Program → BlockRef → ℕ → Level → Mode → Memory → ℕ → Option Instruction → Reaction
timed_by program block at level mode memory moment (Some (Timed op n)) =
    Completes (asked_outcome program block at level memory (effect_timed op n moment memory))
timed_by program block at level mode memory moment _ = Again None (Goes memory (At block at level mode))

-- the instruction of a place
abbrev pub instruction_if : Option Statement → Option Instruction
instruction_if None = None
instruction_if (Some statement) = instruction_of statement

abbrev pub instruction_at : Program → BlockRef → ℕ → Option Instruction
instruction_at program block at = instruction_if (slice_get (statements_of program block) at)

-- the moment is answered
abbrev pub timed_at : Program → Memory → Place → ℕ → Reaction
timed_at program memory (At block at level mode) moment = timed_by program block at level mode memory moment (instruction_at program block at)
timed_at program memory AtOutputs moment = Again None (Goes memory AtOutputs)
timed_at program memory AtInputs moment = Again None (Goes memory AtInputs)
timed_at program memory AtCycle moment = Again None (Goes memory AtCycle)
timed_at program memory (AtReply value) moment = Again None (Goes memory (AtReply value))
timed_at program memory (AtStop code) moment = Again None (Goes memory (AtStop code))
timed_at program memory Over moment = Again None (Goes memory Over)

-- the statement that asked to start the monitoring of the cycle anew is completed, with the status row of a call
abbrev pub retriggered_by : BlockRef → ℕ → Level → Mode → Memory → Option Instruction → Reaction
retriggered_by block at level mode memory (Some Retrigger) =
    Completes (Moves None (Goes (with_status memory (effect_end memory.registers.status)) (At block (at + 1) level Fresh)))
retriggered_by block at level mode memory _ = Again None (Goes memory (At block at level mode))

-- the monitoring of the cycle was started anew
abbrev pub retriggered_at : Program → Memory → Place → Reaction
retriggered_at program memory (At block at level mode) = retriggered_by block at level mode memory (instruction_at program block at)
retriggered_at program memory AtOutputs = Again None (Goes memory AtOutputs)
retriggered_at program memory AtInputs = Again None (Goes memory AtInputs)
retriggered_at program memory AtCycle = Again None (Goes memory AtCycle)
retriggered_at program memory (AtReply value) = Again None (Goes memory (AtReply value))
retriggered_at program memory (AtStop code) = Again None (Goes memory (AtStop code))
retriggered_at program memory Over = Again None (Goes memory Over)

-- a statement that asked for a direct access is completed by what the answer gives, or fails
abbrev pub accessed_by : Program → BlockRef → ℕ → Level → Mode → Memory → Result Memory ℕ → Option Instruction → Reaction
accessed_by program block at level mode memory outcome (Some instruction) = Completes (asked_outcome program block at level memory outcome)
accessed_by program block at level mode memory outcome None = Again None (Goes memory (At block at level mode))

-- a direct access is answered
abbrev pub accessed_at : Program → Memory → Place → Result Memory ℕ → Reaction
accessed_at program memory (At block at level mode) outcome = accessed_by program block at level mode memory outcome (instruction_at program block at)
accessed_at program memory AtOutputs outcome = Again None (Goes memory AtOutputs)
accessed_at program memory AtInputs outcome = Again None (Goes memory AtInputs)
accessed_at program memory AtCycle outcome = Again None (Goes memory AtCycle)
accessed_at program memory (AtReply value) outcome = Again None (Goes memory (AtReply value))
accessed_at program memory (AtStop code) outcome = Again None (Goes memory (AtStop code))
accessed_at program memory Over outcome = Again None (Goes memory Over)

-- alarms --

-- the diagnostic entry of an alarm: for OB80 that a cycle takes long, for OB70 the address of the module whose sides differ
abbrev pub alarm_note : ℕ → ℕ → Option DiagCode
alarm_note ob info = if ob == 80 then Some notes.Cycle else if ob == 70 then Some (notes.Discrep info) else None

-- an alarm of a process or of a module wants OB85 where its own block is not loaded
abbrev pub wants_substitute : ℕ → Bool
wants_substitute ob = is_process ob || ob == 82

-- the level of an organisation block that an alarm starts
abbrev pub alarm_level : Level
alarm_level = record { in_error = false }

-- an organisation block begins on a level of its own, of its priority, with clear registers and some bytes of local data
abbrev pub level_begun : Memory → ℕ → ℕ → Result Memory StopCode
level_begun memory number bytes =
    or_stop (entered (with_registers (with_level memory (priority_of number)) clear_registers) (organisation_block number) bytes)

-- the same with its own local data
abbrev pub level_entered : Memory → ℕ → Code → Result Memory StopCode
level_entered memory number code = level_begun memory number (local_bytes_of code)

-- An organisation block interrupts a place, which goes on at its end with the registers that there were. It is refused only for
-- want of local data, and then the CPU asks to stop.
abbrev pub interrupts : Place → Memory → ℕ → Cause → Result Memory StopCode → Move
interrupts place memory number cause (Ok inside) = Begins inside number alarm_level cause (record { place = place; kept = Whole memory.registers })
interrupts place memory number cause (Err code) = Goes memory (AtStop code)

-- OB85 runs in place of a block that is not loaded; where it is not loaded either, the CPU asks to stop
abbrev pub substituted : Place → Memory → ℕ → Option Code → Move
substituted place memory ob None = Goes memory (AtStop stops.NoOb85)
substituted place memory ob (Some code) = interrupts place memory 85 (BlockMissing ob) (level_entered memory 85 code)

-- an alarm whose block is not loaded
abbrev pub missing : Program → Place → Memory → ℕ → ℕ → Reaction
missing program place memory ob info =
    if wants_substitute ob then Again (Some (notes.Ob85 ob)) (substituted place memory ob (code_of program Ob 85))
    else Again (alarm_note ob info) (Goes memory place)

abbrev pub alarmed_if : Program → Place → Memory → ℕ → ℕ → Option Code → Reaction
alarmed_if program place memory ob info None = missing program place memory ob info
alarmed_if program place memory ob info (Some code) =
    Again (alarm_note ob info) (interrupts place memory ob (AlarmCame info) (level_entered memory ob code))

-- an alarm comes at a place: its block runs first
abbrev pub alarmed : Program → Place → Memory → ℕ → ℕ → Reaction
alarmed program place memory ob info = alarmed_if program place memory ob info (code_of program Ob ob)

-- what an answer is --

-- the CPU takes this answer to this request
abbrev pub takes : Request → Answer → Bool
takes request answer = fits request answer

-- an answer Now is that of its own moment
abbrev pub is_dated : ℕ → Answer → Bool
is_dated moment (answers.Now k) = k == moment
is_dated moment _ = true

-- the CPU takes this answer to this request at this moment
abbrev pub takes_at : ℕ → Request → Answer → Bool
takes_at moment request answer = takes request answer && is_dated moment answer

-- the answer stops the CPU: it is stopped from outside, or its own request to stop is done
abbrev pub stops_cpu : Ask → Answer → Bool
stops_cpu ask (answers.CpuStop code) = true
stops_cpu (asks.Stop code) answers.Done = true
stops_cpu ask answer = false

-- what an answer does at the place that asked
abbrev pub answered : Program → Memory → Place → Ask → Answer → Reaction
answered program memory place ask (answers.Lost side why) = Again (Some (lost_note side why)) (Goes memory (again ask place))
answered program memory place ask (answers.Back side) = Again (Some (notes.Back side)) (Goes memory (again ask place))
answered program memory place ask answers.Hold = Again None (Goes memory (again ask place))
answered program memory place ask (answers.Alarm ob info) = alarmed program (again ask place) memory ob info
answered program memory place ask (answers.CpuStop code) = Again (Some (notes.Stop code)) (Goes memory Over)
answered program memory place (asks.Outputs image) answers.Done = Again None (Goes memory AtInputs)
answered program memory place asks.Inputs (answers.Image image) = Again None (begins_main program memory image)
answered program memory place asks.Cycle answers.Go = Again None (Goes memory AtOutputs)
answered program memory place asks.Cycle (answers.Job job) = Again None (Goes (job_done memory job).0 (AtReply (job_done memory job).1))
answered program memory place asks.Tick answers.Done = Again None (Goes memory (resumed place))
answered program memory place asks.Now (answers.Now moment) = timed_at program memory place moment
answered program memory place asks.Retrigger answers.Done = retriggered_at program memory place
answered program memory place (asks.ReadP addr width) (answers.Value value) = accessed_at program memory place (Ok (with_loaded memory value))
answered program memory place (asks.ReadP addr width) answers.NoModule = accessed_at program memory place (Err 9)
answered program memory place (asks.WriteP addr width value) answers.Done = accessed_at program memory place (Ok (put_out memory addr width value))
answered program memory place (asks.WriteP addr width value) answers.NoModule = accessed_at program memory place (Err 9)
answered program memory place (asks.Reply value) answers.Done = Again None (Goes memory AtCycle)
answered program memory place (asks.Stop code) answers.Done = Again (Some (notes.Stop code)) (Goes memory Over)
answered program memory place _ _ = Again None (Goes memory place)

-- the recursion --

-- at the end of a block, before any registers come back; its local data is gone
abbrev pub at_block_end : Memory → Memory
at_block_end memory = with_status (without_block memory) (effect_end memory.registers.status)

-- the registers when what was kept comes back
abbrev pub restored : Registers → Kept → Registers
restored registers (Whole kept) = kept
restored registers (Brackets unit opened) = record registers { unit = unit; «data» = opened }

-- a frame goes on, with what it kept
abbrev pub resume : Meaning → Frame → Rest → Rest
resume meaning frame rest state given =
    meaning frame.place rest (record state { memory = with_registers state.memory (restored state.memory.registers frame.kept) }) given

-- a call is the meaning of the called block, and then of what follows it; an organisation block finds its start information
abbrev pub moves : Meaning → Rest → State → List Answer → Move → End
moves meaning rest state given (Goes memory place) = meaning place rest (record state { memory = memory }) given
moves meaning rest state given (Calls memory place frame) =
    meaning place (resume meaning frame rest) (record state { memory = memory }) given
moves meaning rest state given (Begins memory number level cause frame) =
    meaning (At (organisation_block number) 0 level Fresh) (resume meaning frame rest)
    (record state { memory = with_start memory (start_information state.cycles (state.taken - 1) number (priority_in memory) cause) }) given

-- one statement more was completed
abbrev pub completed : State → State
completed state = record state { since = state.since + 1 }

-- a diagnostic entry, if there is one, is made at the moment of the last answer, 0 before any
abbrev pub with_note : List Note → ℕ → Option DiagCode → List Note
with_note all moment None = all
with_note all moment (Some code) = all ++ record { moment = moment; code = code } ∷ []

abbrev pub noting : State → Option DiagCode → State
noting state note = record state { notes = with_note state.notes (state.taken - 1) note }

-- from the moment of one beginning to that of the next
abbrev pub cycle_length : ℕ → ℕ → ℕ
cycle_length from to = if nat_lt (to - from) 32767 then to - from else 32767

-- the output image was put out at a moment, so that a cycle begins
abbrev pub cycle_begun : Cycles → ℕ → Cycles
cycle_begun cycles moment =
    record cycles { began_at = moment; last_length = if cycles.first_over then cycle_length cycles.began_at moment else 0 }

-- the cycles after the answer of a moment
abbrev pub cycles_after : Cycles → ℕ → Ask → Answer → Cycles
cycles_after cycles moment (asks.Outputs image) answers.Done = cycle_begun cycles moment
cycles_after cycles moment asks.Cycle answers.Go = record cycles { first_over = true }
cycles_after cycles moment _ _ = cycles

-- an answer was taken; answer k, counted from 0, stands at moment k
abbrev pub took : State → Ask → Answer → State
took state ask answer =
    record state { since = 0; cycles = cycles_after state.cycles state.taken ask answer; taken = state.taken + 1 }

abbrev pub reacts : Meaning → Rest → State → List Answer → Reaction → End
reacts meaning rest state given (Again note move) = moves meaning rest (noting state note) given move
reacts meaning rest state given (Completes (Moves note move)) = moves meaning rest (completed (noting state note)) given move
reacts meaning rest state given (Completes (Halts note memory code)) =
    meaning (AtStop code) rest (completed (noting (record state { memory = memory }) note)) given
reacts meaning rest state given (Completes (Asks request)) = Undefined
reacts meaning rest state given (Completes Leaves) = Undefined
reacts meaning rest state given (Completes Ends) = Undefined

-- a place asks; answer k is taken at moment k, and one that does not fit there ends the evaluation
abbrev pub asking : Meaning → Place → Request → Rest → State → List Answer → End
asking meaning place request rest state [] = Waits request state
asking meaning place request rest state (answer ∷ given) =
    if takes_at state.taken request answer then reacts meaning rest (took state request.ask answer) given (answered state.program state.memory place request.ask answer)
    else Undefined

abbrev pub does : Meaning → Place → Rest → State → List Answer → Turn → End
does meaning place rest state given (Asks request) = asking meaning place request rest state given
does meaning place rest state given (Moves note move) = moves meaning rest (completed (noting state note)) given move
does meaning place rest state given (Halts note memory code) =
    asking meaning (AtStop code) (stop_request code) rest (noting (record state { memory = memory }) note) given
does meaning place rest state given Leaves = rest (record state { memory = at_block_end state.memory }) given
does meaning place rest state given Ends = Stopped state

-- one turn at a place, given what the places mean that it leads to
abbrev pub turn : Meaning → Meaning
turn meaning place rest state given = does meaning place rest state given (turn_of state.program state.since state.memory place)

-- the recursion, at most so deep
unfoldable pub body_within : ℕ → Meaning
body_within zero place rest state given = Undefined
body_within (suc n) place rest state given = turn (body_within n) place rest state given

-- how deep the recursion can go: each turn completes a statement or takes an answer
abbrev pub left : State → List Answer → ℕ
left state given = 257 * length given + (256 - state.since)

-- what a place means, given what follows where its block ends
unfoldable pub body : Meaning
body place rest state given = body_within (suc (left state given)) place rest state given

-- nothing follows the cycle, which does not end
abbrev pub never : Rest
never state given = Undefined

-- at the start the diagnostic entry START is made
abbrev pub start_notes : List Note
start_notes = record { moment = 0; code = notes.Start } ∷ []

-- no cycle has begun
abbrev pub start_cycles : Cycles
start_cycles = record { began_at = 0; last_length = 0; first_over = false }

abbrev pub start : Program → State
start program = record { program = program; memory = start_memory program; since = 0; cycles = start_cycles; notes = start_notes; taken = 0 }

-- OB100 runs on a level of its own, and its end leads to the first cycle
abbrev pub startup_level : Level
startup_level = record { in_error = false }

abbrev pub startup_frame : Frame
startup_frame = record { place = AtOutputs; kept = Whole clear_registers }

abbrev pub startup_entered : Memory → Code → Result Memory StopCode
startup_entered memory code = block_entered (with_level memory (priority_of 100)) (organisation_block 100) code

abbrev pub startup_begun : Memory → Result Memory StopCode → Move
startup_begun memory (Ok inside) = Begins inside 100 startup_level CpuStarted startup_frame
startup_begun memory (Err code) = Goes memory (AtStop code)

abbrev pub startup_if : Memory → Option Code → Move
startup_if memory None = Goes memory AtOutputs
startup_if memory (Some code) = startup_begun memory (startup_entered memory code)

-- where a program starts: in OB100 where it is loaded, and else at the first cycle
abbrev pub starts : Program → Move
starts program = startup_if (start_memory program) (code_of program Ob 100)

-- what the standard CPU does with a program and answers
abbrev pub std : Program → List Answer → End
std program given = moves body never (start program) given (starts program)

-- the request at which it waits, if it does
abbrev pub next_of : End → Option Request
next_of (Waits request state) = Some request
next_of (Stopped state) = None
next_of (Left state given) = None
next_of Undefined = None

-- for each of the answers `more`, which come after the answers `before`, the request at which it is taken
abbrev pub asked_after : Program → List Answer → List Answer → List (Option Request)
asked_after program before [] = []
asked_after program before (answer ∷ more) = next_of (std program before) ∷ asked_after program (before ++ answer ∷ []) more

-- for each answer, the request at which it is taken
abbrev pub asked : Program → List Answer → List (Option Request)
asked program given = asked_after program [] given
