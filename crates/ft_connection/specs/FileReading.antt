-- Reading a file of events, line by line.
use Rattle.std.specs.Prelude.{◌≡◌, ℕ, ◌+◌, List, [], ◌∷◌, ◌++◌, Bool, true, false, Option, Some, None, Result, Ok, Err, nat_lt, if◌then◌else◌}
use Rattle.std.specs.Str.Lines.{lines}
use Rattle.ft_connection.specs.declared.conn_error.ConnError.{ConnError}
use Rattle.ft_connection.specs.declared.conn_error.ConnError.TheVariants.{Fault, NoMemory}
use Rattle.ft_connection.specs.declared.event.NumberedEvent.{NumberedEvent}
use Rattle.ft_connection.specs.declared.line.Line.{Line}
use Rattle.ft_connection.specs.declared.line.Line.TheVariants.{Job, Happens, End}
use Rattle.ft_connection.specs.declared.reading.Stage.{Stage}
use Rattle.ft_connection.specs.declared.reading.Stage.TheVariants.{Jobs, Events, Ended}
use Rattle.ft_connection.specs.Words.{◌>>=◌, is_skipped}
use Rattle.ft_connection.specs.LineForm.{line_spelled}

-- what was read: the jobs, the events with their lines, and what may come next
pub record Read : Type 0 where
  pub jobs : List ℕ
  pub events : List NumberedEvent
  pub stage : Stage

-- nothing was read
abbrev pub nothing : Read
nothing = record { jobs = []; events = []; stage = Jobs }

-- JOB stands before the first event
abbrev pub with_job : Read → ℕ → Stage → Option Read
with_job r job Jobs = Some (record { jobs = r.jobs ++ job ∷ []; events = r.events; stage = Jobs })
with_job r job Events = None
with_job r job Ended = None

-- an event stands before END
abbrev pub with_event : Read → NumberedEvent → Stage → Option Read
with_event r event Jobs = Some (record { jobs = r.jobs; events = r.events ++ event ∷ []; stage = Events })
with_event r event Events = Some (record { jobs = r.jobs; events = r.events ++ event ∷ []; stage = Events })
with_event r event Ended = None

-- END stands once
abbrev pub with_end : Read → Stage → Option Read
with_end r Jobs = Some (record { jobs = r.jobs; events = r.events; stage = Ended })
with_end r Events = Some (record { jobs = r.jobs; events = r.events; stage = Ended })
with_end r Ended = None

-- what was read with the line of this number, where it may stand here
abbrev pub with_line : Read → ℕ → Line → Option Read
with_line r number (Job job) = with_job r job r.stage
with_line r number (Happens event) = with_event r (record { line = number; event = event }) r.stage
with_line r number End = with_end r r.stage

-- the same by the text of the line. The 20,001st line may not stand
unfoldable pub with_text : Read → ℕ → List ℕ → Option Read
with_text r number text =
    if nat_lt 20000 number then None
    else if is_skipped text then Some r
    else (line_spelled text >>= λ line. with_line r number line)

-- END was read
abbrev pub is_ended : Stage → Bool
is_ended Jobs = false
is_ended Events = false
is_ended Ended = true

-- a line that may not stand, or, by the number of the lines and one, that there is no END
abbrev pub bad_event : ℕ → ConnError
bad_event line = Fault 11 line

-- what is read by lines, the first of which has this number
abbrev pub read_lines : Read → ℕ → List (List ℕ) → Result Read ConnError
read_lines r number [] = if is_ended r.stage then Ok r else Err (bad_event number)
read_lines r number (text ∷ texts) = elim (with_text r number text) [
  | None ↦ Err (bad_event number)
  | Some next ↦ read_lines next (number + 1) texts
]

-- what a file says
abbrev pub file_read : List ℕ → Result Read ConnError
file_read bytes = read_lines nothing 1 (lines bytes)

-- what was returned is what reading gives, unless memory ran out
abbrev pub Gives : {R V : Type 0} → (R → V) → Result R ConnError → Result V ConnError → Type 0
Gives view (Ok x) read = read ≡ Ok (view x)
Gives view (Err (Fault kind line)) read = read ≡ Err (Fault kind line)
Gives view (Err NoMemory) read = Unit {0}
