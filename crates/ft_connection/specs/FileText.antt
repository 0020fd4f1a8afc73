-- How a file of events is written, and what it says.
use Rattle.std.specs.Prelude.{ℕ, ◌+◌, ◌<◌, ◌^◌, List, [], ◌∷◌, ◌++◌, codes, length}
use Rattle.std.specs.List.{flat_map}
use Rattle.std.specs.Fmt.{decimal}
use Rattle.ft_connection.specs.declared.event.Event.{Event}
use Rattle.ft_connection.specs.declared.event.Event.TheVariants.{Send, Deliver, Ack, Down, Up}
use Rattle.ft_connection.specs.declared.event.NumberedEvent.{NumberedEvent}
use Rattle.ft_connection.specs.declared.reading.Stage.TheVariants.{Ended}
use Rattle.ft_connection.specs.FileReading.{Read}
use Rattle.ft_connection.specs.EventText.{hex, path_text}

-- a word, a blank and the text after it
abbrev pub before : List ℕ → List ℕ → List ℕ
before word text = word ++ 32 ∷ text

-- a text with its line feed
abbrev pub line : List ℕ → List ℕ
line text = text ++ 10 ∷ []

-- `JOB x`
abbrev pub job_text : ℕ → List ℕ
job_text job = before (codes "JOB") (hex 8 job)

-- `SEND p`, `DELIVER p i`, `ACK p i`, `DOWN p`, `UP p`
abbrev pub event_words : Event → List ℕ
event_words (Send path) = before (codes "SEND") (path_text path)
event_words (Deliver path which) = before (codes "DELIVER") (before (path_text path) (decimal which))
event_words (Ack path which) = before (codes "ACK") (before (path_text path) (decimal which))
event_words (Down path) = before (codes "DOWN") (path_text path)
event_words (Up path) = before (codes "UP") (path_text path)

-- the jobs, the events and END, a line each
abbrev pub file_text : List ℕ → List Event → List ℕ
file_text jobs events =
    flat_map (λ job. line (job_text job)) jobs ++ (flat_map (λ event. line (event_words event)) events ++ line (codes "END"))

-- events with the numbers of their lines, the first of which is this
abbrev pub numbered : ℕ → List Event → List NumberedEvent
numbered first [] = []
numbered first (event ∷ events) = record { line = first; event = event } ∷ numbered (first + 1) events

-- what the file says
abbrev pub said : List ℕ → List Event → Read
said jobs events = record { jobs = jobs; events = numbered (length jobs + 1) events; stage = Ended }

-- the number is below 4,294,967,296
abbrev pub IsShort : Event → Type 0
IsShort (Send path) = Unit {0}
IsShort (Deliver path which) = which < 2 ^ 32
IsShort (Ack path which) = which < 2 ^ 32
IsShort (Down path) = Unit {0}
IsShort (Up path) = Unit {0}
