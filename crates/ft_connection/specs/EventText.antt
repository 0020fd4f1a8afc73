-- The text of a list of events.
use Rattle.std.specs.Prelude.{ℕ, zero, suc, ◌+◌, ◌/◌, ◌%◌, nat_lt, List, [], ◌∷◌, ◌++◌, codes, slice_get, Option, Some, None, Result, Ok, Err, if◌then◌else◌}
use Rattle.std.specs.Fmt.{decimal}
use Rattle.ft_connection.specs.declared.frame.Frame.{Frame}
use Rattle.ft_connection.specs.declared.frame.Path.{Path}
use Rattle.ft_connection.specs.declared.frame.Path.TheVariants.{One, Two}
use Rattle.ft_connection.specs.declared.frame.SendFault.{SendFault}
use Rattle.ft_connection.specs.declared.frame.SendFault.TheVariants as faults
use Rattle.ft_connection.specs.declared.frame.Taken.{Taken}
use Rattle.ft_connection.specs.declared.frame.Taken.TheVariants.{New, Old, Ahead}
use Rattle.ft_connection.specs.declared.event.Event.{Event}
use Rattle.ft_connection.specs.declared.event.Event.TheVariants.{Send, Deliver, Ack, Down, Up}
use Rattle.ft_connection.specs.SenderRule.{answer}
use Rattle.ft_connection.specs.ReceiverRule.{taken}
use Rattle.ft_connection.specs.World.{World, wire, step}

-- an upper-case hexadecimal digit
abbrev pub hex_digit : ℕ → ℕ
hex_digit digit = if nat_lt digit 10 then 48 + digit else 55 + digit

-- a number as this many hexadecimal digits
unfoldable pub hex : ℕ → ℕ → List ℕ
hex zero number = []
hex (suc width) number = hex width (number / 16) ++ hex_digit (number % 16) ∷ []

-- the digit of a path
abbrev pub path_text : Path → List ℕ
path_text One = codes "1"
path_text Two = codes "2"

-- the word of a refusal, with a blank after it
abbrev pub fault_word : SendFault → List ℕ
fault_word faults.Down = codes "REFUSED "
fault_word faults.Idle = codes "IDLE "

-- `REFUSED p` or `IDLE p`
abbrev pub send_text : Path → Result Frame SendFault → List ℕ
send_text path (Ok frame) = []
send_text path (Err fault) = fault_word fault ++ (path_text path ++ codes "\n")

-- `TAKE n x`, where a frame is new
abbrev pub taken_text : Taken → Frame → List ℕ
taken_text New frame = codes "TAKE " ++ (decimal frame.number ++ (codes " " ++ (hex 8 frame.job ++ codes "\n")))
taken_text Old frame = []
taken_text Ahead frame = []

abbrev pub frame_text : ℕ → Option Frame → List ℕ
frame_text handed None = []
frame_text handed (Some frame) = taken_text (taken handed frame.number) frame

-- the line of an event, if it has one
abbrev pub event_text : World → Event → List ℕ
event_text w (Send path) = send_text path (answer w.sender path)
event_text w (Deliver path which) = frame_text w.handed (slice_get (wire w.wires path).frames which)
event_text w (Ack path which) = []
event_text w (Down path) = []
event_text w (Up path) = []

-- the lines of a list of events
abbrev pub events_text : World → List Event → List ℕ
events_text w [] = []
events_text w (event ∷ events) = event_text w event ++ events_text (step w event) events

-- `DONE h a`, with the numbers handed over and acknowledged
abbrev pub done_text : ℕ → ℕ → List ℕ
done_text handed acked = codes "DONE " ++ (decimal handed ++ (codes " " ++ (decimal acked ++ codes "\n")))
