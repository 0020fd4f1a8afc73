-- What it means that a machine stands for a program and the answers that it has taken.
use Rattle.std.specs.Prelude.{◌≡◌, ◌≢◌, ℕ, suc, ◌+◌, ◌-◌, ◌*◌, ◌^◌, ◌<◌, false, List, [], ◌∷◌, ◌++◌, length, drop, Option, Some, None, IfSome, IsTrue, is_some, nat_lt, ◌==◌, ◌≤◌, if◌then◌else◌, slice_get, flat_map, replicate}
use Rattle.std.specs.Int.{bytes_high_first}
use Rattle.s7_events.specs.declared.entry.Ask.{Ask}
use Rattle.s7_events.specs.declared.entry.Ask.TheVariants as asks
use Rattle.s7_events.specs.declared.entry.Request.{Request}
use Rattle.s7_events.specs.declared.entry.Answer.{Answer}
use Rattle.s7_events.specs.declared.entry.Answer.TheVariants as answers
use Rattle.s7_events.specs.Priorities.{is_alarm, priority_of}
use Rattle.s7_events.specs.declared.diagnostics.DiagCode.{DiagCode}
use Rattle.s7_events.specs.declared.diagnostics.Area.{Area}
use Rattle.s7_events.specs.declared.diagnostics.Area.TheVariants.{I, Q, M, Db, Timers, Counters, Registers}
use Rattle.s7_base.specs.declared.blocks.BlockRef.{BlockRef}
use Rattle.s7_base.specs.Blocks.{Program}
use Rattle.diag_buffer.specs.declared.note.Note.{Note}
use Rattle.level_stack.specs.Levels.{LevelState}
use Rattle.cpu_image.specs.declared.area.ByteArea.TheVariants as byte_areas
use Rattle.cpu_image.specs.Image as image
use Rattle.cpu_image.specs.Pages as image_pages
use Rattle.cpu_image.specs.Values.{IsWidth}
use Rattle.statement_effects.specs.State.{Memory}
use Rattle.statement_effects.specs.Levels.{priority_in, with_start}
use Rattle.mc_machine.specs.Places.{Level, Mode, Place, AtOutputs, AtInputs, AtCycle, AtReply, AtStop, Over, At, Fresh, Frame}
use Rattle.timers.specs.Bytes as timer_form
use Rattle.counters.specs.Bytes as counter_form
use Rattle.statement_effects.specs.Areas.{with_registers, data_length, start_memory}
use Rattle.statement_effects.specs.CounterEffect.{counter_at}
use Rattle.mc_machine.specs.Meaning.{Cycles, State, End, Waits, Stopped, Rest, Move, Goes, Calls, Begins, Reaction, Again, Completes, Turn, Asks, Moves, Halts, Leaves, Ends, organisation_block, start_information, stop_request, at_block_end, restored, resume, body, takes, is_dated, stops_cpu, turn_of, never, start_notes, start_cycles, std}

-- where a machine is: its program, its place, the frames under it, what the statements see, the statements completed
-- since the last answer, the moment of that answer, the cycles, and the diagnostic entries that it keeps
pub record Config : Type 0 where
  pub program : Program
  pub place : Place
  pub frames : List Frame
  pub memory : Memory
  pub since : ℕ
  pub at : ℕ
  pub cycles : Cycles
  pub diag : List Note

-- the newest 120 entries, which a machine keeps
abbrev pub newest : List Note → List Note
newest notes = drop (length notes - 120) notes

abbrev pub with_newest : List Note → ℕ → Option DiagCode → List Note
with_newest notes moment None = notes
with_newest notes moment (Some code) = newest (notes ++ record { moment = moment; code = code } ∷ [])

-- the state of the CPU, with all its diagnostic entries and the number of answers taken
abbrev pub state_of : Config → List Note → ℕ → State
state_of c notes taken = record { program = c.program; memory = c.memory; since = c.since; cycles = c.cycles; notes = notes; taken = taken }

-- a machine before the CPU starts
abbrev pub start_config : Program → Config
start_config program = record { program = program; place = AtOutputs; frames = []; memory = start_memory program; since = 0; at = 0; cycles = start_cycles; diag = start_notes }

-- what is left of the frames: the last one first, and at last what follows them all
abbrev pub rest_of : Rest → List Frame → Rest
rest_of rest [] = rest
rest_of rest (frame ∷ frames) = rest_of (resume body frame rest) frames

-- what is left to do: the place, and then the frames
abbrev pub todo : Config → List Note → ℕ → List Answer → End
todo c notes taken given = body c.place (rest_of never c.frames) (state_of c notes taken) given

-- the machine does with any further answers what the CPU does with them after the earlier ones
pub record StandsFor (program : Program) (given : List Answer) (c : Config) : Type 0 where
  pub notes : List Note
  pub keeps_newest : c.diag ≡ newest notes
  pub moment : c.at ≡ length given - 1
  pub goes_on : (more : List Answer) → std program (given ++ more) ≡ todo c notes (length given) more

-- the machine is where a move leads
abbrev pub IsMoved : Move → Config → ℕ → ℕ → Option DiagCode → Config → Type 0
IsMoved (Goes memory place) c since at note c' = c' ≡ record { program = c.program; place = place; frames = c.frames; memory = memory; since = since; at = at; cycles = c.cycles; diag = with_newest c.diag at note }
IsMoved (Calls memory place frame) c since at note c' = c' ≡ record { program = c.program; place = place; frames = c.frames ++ frame ∷ []; memory = memory; since = since; at = at; cycles = c.cycles; diag = with_newest c.diag at note }
IsMoved (Begins memory number level cause frame) c since at note c' = c' ≡ record { program = c.program; place = At (organisation_block number) 0 level Fresh; frames = c.frames ++ frame ∷ []; memory = with_start memory (start_information c.cycles at number (priority_in memory) cause); since = since; at = at; cycles = c.cycles; diag = with_newest c.diag at note }

-- the machine is where a turn leads that moves or halts, with so many statements completed
abbrev pub IsTurned : Turn → Config → ℕ → ℕ → Config → Type 0
IsTurned (Moves note move) c since at c' = IsMoved move c since at note c'
IsTurned (Halts note memory code) c since at c' = IsMoved (Goes memory (AtStop code)) c since at note c'
IsTurned (Asks request) c since at c' = ⊥
IsTurned Leaves c since at c' = ⊥
IsTurned Ends c since at c' = ⊥

-- the request of a turn that halts
abbrev pub halts_with : Turn → Option Request
halts_with (Halts _ _ code) = Some (stop_request code)
halts_with _ = None

-- the machine has taken an answer at this moment
abbrev pub Reacts : Reaction → Config → ℕ → Config → Type 0
Reacts (Again note move) c moment c' = IsMoved move c 0 moment note c'
Reacts (Completes turn) c moment c' = IsTurned turn c 1 moment c'

-- the machine has taken a turn, or asks
abbrev pub Follows : Turn → Config → Option Request → Config → Type 0
Follows (Asks request) c asked c' = (asked ≡ Some request) × (c' ≡ c)
Follows (Moves note move) c asked c' = (asked ≡ None) × IsMoved move c (c.since + 1) c.at note c'
Follows (Halts note memory code) c asked c' = (asked ≡ Some (stop_request code)) × IsMoved (Goes memory (AtStop code)) c c.since c.at note c'
Follows Leaves c asked c' = (asked ≡ None) × (frame : Frame) × (c.frames ≡ c'.frames ++ frame ∷ []) × (c' ≡ record { program = c.program; place = frame.place; frames = c'.frames; memory = with_registers (at_block_end c.memory) (restored (at_block_end c.memory).registers frame.kept); since = c.since; at = c.at; cycles = c.cycles; diag = c.diag })
Follows Ends c asked c' = ⊥

-- how many frames lie under a place: under a block that of the cycle at least
abbrev pub IsHigh : ℕ → Place → Type 0
IsHigh n AtOutputs = n ≡ 0
IsHigh n AtInputs = n ≡ 0
IsHigh n AtCycle = n ≡ 0
IsHigh n (AtReply value) = n ≡ 0
IsHigh n (AtStop code) = Unit {0}
IsHigh n Over = ⊥
IsHigh n (At block at level mode) = 0 < n

-- each frame has as many under it as its place may have
abbrev pub AreStacked : ℕ → List Frame → Type 0
AreStacked n [] = Unit {0}
AreStacked n (frame ∷ frames) = IsHigh n frame.place × AreStacked (suc n) frames

-- how many priorities up to one a level may have: that of OB1; 7 to 15, of cyclic interrupts; 16 to 23, of process alarms; 25 and 26;
-- and 28. That of the start-up, 27, which begins alone, counts as 26
abbrev pub rank_of : ℕ → ℕ
rank_of priority =
    if nat_lt priority 7 then 1
    else if nat_lt priority 24 then priority - 5
    else if priority == 24 then 18
    else if priority == 25 then 19
    else if nat_lt priority 28 then 20
    else 21

-- level k, counted from 0, over which n blocks have begun that are not on the levels below: some of them on it, at most 24; and so
-- many priorities are below its own as there are levels
pub record IsLevel (k n : ℕ) (level : LevelState) : Type 0 where
  pub some : 0 < length level.frames
  pub few : length level.frames ≤ 24
  pub part : length level.frames ≤ n
  pub ranked : k < rank_of level.prio

-- as many blocks have begun on the levels from level k on
abbrev pub AreBegunFrom : ℕ → ℕ → List LevelState → Type 0
AreBegunFrom k n [] = n ≡ 0
AreBegunFrom k n (level ∷ levels) = IsLevel k n level × AreBegunFrom (suc k) (n - length level.frames) levels

-- as many blocks have begun, on all levels together, as there are frames; so there are 21 levels at most
pub record AreBegun (n : ℕ) (levels : List LevelState) : Type 0 where
  pub from_below : AreBegunFrom 0 n levels

pub record IsSound (c : Config) : Type 0 where
  pub high : IsHigh (length c.frames) c.place
  pub stacked : AreStacked 0 c.frames
  pub begun : AreBegun (length c.frames) c.memory.levels

-- a block more has begun on a level that runs, and 504 at most on all levels
abbrev pub IsDeeper : List LevelState → List LevelState → Type 0
IsDeeper before after = (n : ℕ) → AreBegun n before → 0 < n → AreBegun (n + 1) after × (n < 504)

-- a level more has begun, and on it one block
abbrev pub IsHigher : List LevelState → List LevelState → Type 0
IsHigher before after = (n : ℕ) → AreBegun n before → AreBegun (n + 1) after × (n < 504)

-- the block of an alarm may interrupt: it is of a higher priority than the level that runs; and the info of OB70 is an address
pub record Interrupts (memory : Memory) (ob info : ℕ) : Type 0 where
  pub alarm : IsTrue (is_alarm ob)
  pub above : priority_in memory < priority_of ob
  pub narrow : ob ≡ 70 → info ≤ 65535

-- an alarm that is answered may interrupt
abbrev pub MayInterrupt : Memory → Answer → Type 0
MayInterrupt memory (answers.Alarm ob info) = Interrupts memory ob info
MayInterrupt memory _ = Unit {0}

-- the place asks this request
abbrev pub AsksAt : Config → Request → Type 0
AsksAt c request = turn_of c.program c.since c.memory c.place ≡ Asks request

-- the place is at a statement of a block
abbrev pub IsInBlock : Place → Type 0
IsInBlock place = (block : BlockRef) × (at : ℕ) × (level : Level) × (mode : Mode) × (place ≡ At block at level mode)

-- at which places a request is asked: a direct access is of 1, 2 or 4 bytes, in which a value that it writes lies
abbrev pub IsAskedAt : Place → Ask → Type 0
IsAskedAt place (asks.Outputs image) = place ≡ AtOutputs
IsAskedAt place asks.Inputs = place ≡ AtInputs
IsAskedAt place asks.Cycle = place ≡ AtCycle
IsAskedAt place asks.Tick = IsInBlock place
IsAskedAt place (asks.ReadP addr width) = IsInBlock place × IsWidth width
IsAskedAt place (asks.WriteP addr width value) = IsInBlock place × IsWidth width × (value < 2 ^ (8 * width))
IsAskedAt place asks.Now = IsInBlock place
IsAskedAt place asks.Retrigger = IsInBlock place
IsAskedAt place (asks.Reply value) = place ≡ AtReply value
IsAskedAt place (asks.Stop code) = place ≡ AtStop code

-- what a machine asks: a direct access is of 1, 2 or 4 bytes, in which a value that it writes lies
abbrev pub IsAsked : Ask → Type 0
IsAsked (asks.Outputs image) = Unit {0}
IsAsked asks.Inputs = Unit {0}
IsAsked asks.Cycle = Unit {0}
IsAsked asks.Tick = Unit {0}
IsAsked (asks.ReadP addr width) = IsWidth width
IsAsked (asks.WriteP addr width value) = IsWidth width × (value < 2 ^ (8 * width))
IsAsked asks.Now = Unit {0}
IsAsked asks.Retrigger = Unit {0}
IsAsked (asks.Reply value) = Unit {0}
IsAsked (asks.Stop code) = Unit {0}

-- what stood for a program and answers stands for them still
abbrev pub Keeps : Config → Config → Type 0
Keeps c c' = (program : Program) (given : List Answer) → StandsFor program given c → StandsFor program given c'

-- a bound on the turns up to the next request
abbrev pub turns_left : Config → ℕ
turns_left c = 2 * (256 - c.since) + length c.frames

-- a machine that runs: where it is, and the request at which it waits, once it was asked
pub record Running : Type 0 where
  pub config : Config
  pub waits : Option Request

-- what is always true of a machine that runs
pub record IsValid (running : Running) : Type 0 where
  pub sound : running.config.place ≢ Over → IsSound running.config
  pub waits : IfSome running.waits (AsksAt running.config)

-- the machine, as its users see it: idle, or running --

abbrev pub IsIdle : Option Running → Type 0
IsIdle machine = machine ≡ None

-- it runs, and this holds of it
abbrev pub OfRunning : Option Running → (Running → Type 0) → Type 0
OfRunning None P = ⊥
OfRunning (Some running) P = P running

abbrev pub IsRunning : Option Running → Type 0
IsRunning machine = IsTrue (is_some machine)

-- it runs, and has not stopped
abbrev pub CanAsk : Option Running → Type 0
CanAsk machine = OfRunning machine (λ running. running.config.place ≢ Over)

abbrev pub HasStopped : Option Running → Type 0
HasStopped machine = OfRunning machine (λ running. running.config.place ≡ Over)

-- it was asked, and waits at this request
abbrev pub WaitsAt : Option Running → Request → Type 0
WaitsAt machine request = OfRunning machine (λ running. running.waits ≡ Some request)

-- it waits at a request to which it takes this answer
abbrev pub IsTaken : Option Request → Answer → Type 0
IsTaken None answer = ⊥
IsTaken (Some request) answer = IsTrue (takes request answer)

-- it waits at a request that this answer does not make the end of the run
abbrev pub GoesOn : Option Request → Answer → Type 0
GoesOn None answer = ⊥
GoesOn (Some request) answer = stops_cpu request.ask answer ≡ false

abbrev pub CanGoOn : Option Running → Answer → Type 0
CanGoOn machine answer = OfRunning machine (λ running. GoesOn running.waits answer)

-- the answer, if it is Now, is that of this moment
abbrev pub IsDated : ℕ → Answer → Type 0
IsDated moment answer = IsTrue (is_dated moment answer)

abbrev pub CanTake : Option Running → Answer → Type 0
CanTake machine answer = OfRunning machine (λ running. IsTaken running.waits answer)

-- it stands for a program and the answers taken
abbrev pub Stands : Program → List Answer → Option Running → Type 0
Stands program given machine = OfRunning machine (λ running. StandsFor program given running.config)

-- what it shows of a CPU's state: what the statements see, the count of statements, the moment of the last answer, the
-- cycles, and the newest diagnostic entries
pub record Shows (running : Running) (state : State) : Type 0 where
  pub memory : running.config.memory ≡ state.memory
  pub since : running.config.since ≡ state.since
  pub at : running.config.at ≡ state.taken - 1
  pub cycles : running.config.cycles ≡ state.cycles
  pub diag : running.config.diag ≡ newest state.notes

-- the CPU waits at this request after these answers, in a state that the machine shows
abbrev pub CpuWaits : Program → List Answer → Request → Option Running → Type 0
CpuWaits program given request machine =
    OfRunning machine (λ running. (state : State) × (std program given ≡ Waits request state) × Shows running state)

-- the CPU has stopped after these answers, in a state that the machine shows
abbrev pub CpuStopped : Program → List Answer → Option Running → Type 0
CpuStopped program given machine =
    OfRunning machine (λ running. (state : State) × (std program given ≡ Stopped state) × Shows running state)

-- the bytes of the registers, in 256: the moment of the last answer in 8, the statements completed since then in 4, the
-- moment at which the last cycle began in 8, the length of the one before in 2, whether the first one is over, the number
-- of diagnostic entries that are kept, and 0; the highest byte first
abbrev pub register_head : Config → List ℕ
register_head c =
    bytes_high_first 8 c.at ++ bytes_high_first 4 c.since ++ bytes_high_first 8 c.cycles.began_at ++ bytes_high_first 2 c.cycles.last_length
    ++ (if c.cycles.first_over then 1 else 0) ∷ length c.diag ∷ []

abbrev pub register_bytes : Config → List ℕ
register_bytes c = register_head c ++ replicate 232 0

-- the bytes of an area: none where it is a data block that is not loaded
abbrev pub area_bytes : Config → Area → List ℕ
area_bytes c I = c.memory.image.inputs
area_bytes c Q = c.memory.image.outputs
area_bytes c M = c.memory.image.bit_memory
area_bytes c (Db number) = image.area_bytes c.memory.image (byte_areas.Db number)
area_bytes c Timers = flat_map timer_form.bytes_of c.memory.timers
area_bytes c Counters = flat_map counter_form.bytes_of c.memory.counters
area_bytes c Registers = register_bytes c

-- the byte of an area at an address, if there is one
abbrev pub byte_of : Option Running → Area → ℕ → Option ℕ
byte_of None area at_byte = None
byte_of (Some running) area at_byte = slice_get (area_bytes running.config area) at_byte

-- the value of a counter
abbrev pub counter_of : Option Running → ℕ → ℕ
counter_of None n = 0
counter_of (Some running) n = (counter_at running.config.memory n).value

-- how many bytes a data block has, if it is loaded
abbrev pub block_length_of : Option Running → ℕ → Option ℕ
block_length_of None number = None
block_length_of (Some running) number = data_length running.config.memory number

-- the areas have their sizes
pub record HasSizes (memory : Memory) : Type 0 where
  pub image : image_pages.HasSizes memory.image
  pub timers : length memory.timers ≡ 256
  pub counters : length memory.counters ≡ 256

-- the diagnostic entries that are kept, the oldest first
abbrev pub notes_of : Option Running → List Note
notes_of None = []
notes_of (Some running) = running.config.diag
