-- A connection as a world, and its steps.
use Rattle.std.specs.Prelude.{ℕ, max, Bool, true, false, List, [], ◌∷◌, ◌++◌, slice_get, is_some, Option, Some, None, Result, Ok, Err}
use Rattle.ft_connection.specs.declared.frame.Frame.{Frame}
use Rattle.ft_connection.specs.declared.frame.Path.{Path}
use Rattle.ft_connection.specs.declared.frame.Path.TheVariants.{One, Two}
use Rattle.ft_connection.specs.declared.frame.SendFault.{SendFault}
use Rattle.ft_connection.specs.declared.frame.Taken.{Taken}
use Rattle.ft_connection.specs.declared.frame.Taken.TheVariants.{New, Old, Ahead}
use Rattle.ft_connection.specs.declared.event.Event.{Event}
use Rattle.ft_connection.specs.declared.event.Event.TheVariants.{Send, Deliver, Ack, Down, Up}
use Rattle.ft_connection.specs.SenderRule.{SenderState, first_state, lane, with_lane, answer, moved}
use Rattle.ft_connection.specs.ReceiverRule.{taken, after}

-- every frame and every acknowledgement that was ever sent on a path
pub record Wire : Type 0 where
  pub frames : List Frame
  pub acks : List ℕ

-- the network
pub record Wires : Type 0 where
  pub one : Wire
  pub two : Wire

-- the sender (the jobs, how many of them are acknowledged, and of each path its cursor and whether it is up), how many
-- jobs the receiver has handed over, and the network
pub record World : Type 0 where
  pub sender : SenderState
  pub handed : ℕ
  pub wires : Wires

abbrev pub wire : Wires → Path → Wire
wire wires One = wires.one
wire wires Two = wires.two

abbrev pub with_wire : Wires → Path → Wire → Wires
with_wire wires One changed = record wires { one = changed }
with_wire wires Two changed = record wires { two = changed }

-- the network with one more frame on a path
abbrev pub with_frame : Wires → Path → Frame → Wires
with_frame wires path frame =
    with_wire wires path (record { frames = (wire wires path).frames ++ frame ∷ []; acks = (wire wires path).acks })

-- the network with one more acknowledgement on a path
abbrev pub with_ack : Wires → Path → ℕ → Wires
with_ack wires path next =
    with_wire wires path (record { frames = (wire wires path).frames; acks = (wire wires path).acks ++ next ∷ [] })

-- nothing was sent
abbrev pub no_wires : Wires
no_wires = record { one = record { frames = []; acks = [] }; two = record { frames = []; acks = [] } }

-- the first world of these jobs
abbrev pub first : List ℕ → World
first jobs = record { sender = first_state jobs; handed = 0; wires = no_wires }

-- a SEND, by what the sender answers
abbrev pub sent : World → Path → Result Frame SendFault → World
sent w path (Ok frame) =
    record { sender = moved w.sender path (Ok frame); handed = w.handed; wires = with_frame w.wires path frame }
sent w path (Err fault) = w

-- a frame comes to the receiver, which acknowledges all that it has handed over
abbrev pub delivered : World → Path → Option Frame → World
delivered w path None = w
delivered w path (Some frame) =
    record {
      sender = w.sender;
      handed = after w.handed frame.number;
      wires = with_ack w.wires path (after w.handed frame.number);
    }

-- an acknowledgement comes to the sender
abbrev pub acknowledged : World → Option ℕ → World
acknowledged w None = w
acknowledged w (Some next) =
    record { sender = record w.sender { acked = max w.sender.acked next }; handed = w.handed; wires = w.wires }

-- a path goes down; its cursor stays
abbrev pub path_down : SenderState → Path → SenderState
path_down s path = with_lane s path (record { cursor = (lane s path).cursor; up = false })

-- a path comes up; its cursor goes to the first job that is not acknowledged
abbrev pub path_up : SenderState → Path → SenderState
path_up s path = with_lane s path (record { cursor = s.acked; up = true })

-- an event is a step of the world
abbrev pub step : World → Event → World
step w (Send path) = sent w path (answer w.sender path)
step w (Deliver path which) = delivered w path (slice_get (wire w.wires path).frames which)
step w (Ack path which) = acknowledged w (slice_get (wire w.wires path).acks which)
step w (Down path) = record { sender = path_down w.sender path; handed = w.handed; wires = w.wires }
step w (Up path) = record { sender = path_up w.sender path; handed = w.handed; wires = w.wires }

-- what an event names was sent by then
abbrev pub is_named : World → Event → Bool
is_named w (Send path) = true
is_named w (Deliver path which) = is_some (slice_get (wire w.wires path).frames which)
is_named w (Ack path which) = is_some (slice_get (wire w.wires path).acks which)
is_named w (Down path) = true
is_named w (Up path) = true

-- the job of a frame that is new
abbrev pub new_job : Taken → Frame → List ℕ
new_job New frame = frame.job ∷ []
new_job Old frame = []
new_job Ahead frame = []

-- the job that the receiver hands over, if a frame comes and is new
abbrev pub frame_jobs : ℕ → Option Frame → List ℕ
frame_jobs handed None = []
frame_jobs handed (Some frame) = new_job (taken handed frame.number) frame

-- the job that is handed over by an event, if one is
abbrev pub event_jobs : World → Event → List ℕ
event_jobs w (Send path) = []
event_jobs w (Deliver path which) = frame_jobs w.handed (slice_get (wire w.wires path).frames which)
event_jobs w (Ack path which) = []
event_jobs w (Down path) = []
event_jobs w (Up path) = []

-- the world after a list of events
abbrev pub run : World → List Event → World
run w [] = w
run w (event ∷ events) = run (step w event) events

-- the jobs that are handed over by a list of events, in the order in which they are
abbrev pub jobs_handed : World → List Event → List ℕ
jobs_handed w [] = []
jobs_handed w (event ∷ events) = event_jobs w event ++ jobs_handed (step w event) events
