-- The forms of a line.
use Rattle.std.specs.Prelude.{ℕ, ◌==◌, List, length, codes, Option, Some, None, if◌then◌else◌}
use Rattle.std.specs.Option.{option_map}
use Rattle.std.specs.Str.{bytes_eq}
use Rattle.ft_connection.specs.declared.frame.Path.{Path}
use Rattle.ft_connection.specs.declared.frame.Path.TheVariants.{One, Two}
use Rattle.ft_connection.specs.declared.event.Event.{Event}
use Rattle.ft_connection.specs.declared.event.Event.TheVariants.{Send, Deliver, Ack, Down, Up}
use Rattle.ft_connection.specs.declared.line.Line.{Line}
use Rattle.ft_connection.specs.declared.line.Line.TheVariants.{Job, Happens, End}
use Rattle.ft_connection.specs.Words.{◌>>=◌, word, number_spelled, job_spelled}

-- `1` or `2`
abbrev pub path_spelled : List ℕ → Option Path
path_spelled text = if bytes_eq text (codes "1") then Some One else if bytes_eq text (codes "2") then Some Two else None

-- `SEND p`, `DOWN p` or `UP p`
abbrev pub path_event : List ℕ → Path → Option Event
path_event first path =
    if bytes_eq first (codes "SEND") then Some (Send path)
    else if bytes_eq first (codes "DOWN") then Some (Down path)
    else if bytes_eq first (codes "UP") then Some (Up path)
    else None

-- `DELIVER p i` or `ACK p i`
abbrev pub counted_event : List ℕ → Path → ℕ → Option Event
counted_event first path which =
    if bytes_eq first (codes "DELIVER") then Some (Deliver path which)
    else if bytes_eq first (codes "ACK") then Some (Ack path which)
    else None

-- an event by its three words, the third empty where there are two
unfoldable pub event_spelled : List ℕ → List ℕ → List ℕ → Option Event
event_spelled first second third = do
  path ← path_spelled second
  if length third == 0 then path_event first path else (number_spelled third >>= λ which. counted_event first path which)

-- `JOB x`, `END` or an event, by its words, the missing ones empty
unfoldable pub form_spelled : List ℕ → List ℕ → List ℕ → Option Line
form_spelled first second third =
    if bytes_eq first (codes "END") then (if length second == 0 then Some End else None)
    else if bytes_eq first (codes "JOB") then (if length third == 0 then option_map (λ job. Job job) (job_spelled second) else None)
    else option_map (λ event. Happens event) (event_spelled first second third)

-- a line of one of these forms, of no more than three words
abbrev pub line_spelled : List ℕ → Option Line
line_spelled text =
    if length (word 3 text) == 0 then form_spelled (word 0 text) (word 1 text) (word 2 text) else None
