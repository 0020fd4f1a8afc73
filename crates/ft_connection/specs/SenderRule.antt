-- What the sender does.
use Rattle.std.specs.Prelude.{ℕ, ◌+◌, ◌≤◌, ◌==◌, min, true, not, ◌||◌, nat_lt, List, length, slice_index, Result, Ok, Err, if◌then◌else◌}
use Rattle.ft_connection.specs.declared.frame.Frame.{Frame}
use Rattle.ft_connection.specs.declared.frame.Path.{Path}
use Rattle.ft_connection.specs.declared.frame.Path.TheVariants.{One, Two}
use Rattle.ft_connection.specs.declared.frame.SendFault.{SendFault}
use Rattle.ft_connection.specs.declared.frame.SendFault.TheVariants.{Down, Idle}
use Rattle.ft_connection.specs.declared.sender.Lane.{Lane}

-- the jobs, how many of them are acknowledged, and the two paths, each with its cursor and whether it is up
pub record SenderState : Type 0 where
  pub jobs : List ℕ
  pub acked : ℕ
  pub one : Lane
  pub two : Lane

-- nothing is acknowledged; both paths are up and begin with the first job
abbrev pub first_state : List ℕ → SenderState
first_state jobs =
    record { jobs = jobs; acked = 0; one = record { cursor = 0; up = true }; two = record { cursor = 0; up = true } }

-- the path as the sender sees it
abbrev pub lane : SenderState → Path → Lane
lane s One = s.one
lane s Two = s.two

-- the sender with this path changed
abbrev pub with_lane : SenderState → Path → Lane → SenderState
with_lane s One changed = record s { one = changed }
with_lane s Two changed = record s { two = changed }

-- the window: sixteen jobs from the first that is not acknowledged, as far as there are jobs. This is the number after
-- that of its last job
abbrev pub window_end : SenderState → ℕ
window_end s = min (length s.jobs) (s.acked + 16)

-- the number of the job that a path sends next. A cursor below the window or at its end goes back to the window's first job
abbrev pub place : SenderState → Path → ℕ
place s path =
    if nat_lt (lane s path).cursor s.acked || (lane s path).cursor == window_end s then s.acked else (lane s path).cursor

-- what a SEND on the path gives
abbrev pub answer : SenderState → Path → Result Frame SendFault
answer s path =
    if not (lane s path).up then Err Down
    else if s.acked == length s.jobs then Err Idle
    else Ok (record { number = place s path; job = slice_index s.jobs (place s path) })

-- the path's cursor stands after the frame that was sent
abbrev pub moved : SenderState → Path → Result Frame SendFault → SenderState
moved s path (Ok frame) = with_lane s path (record { cursor = frame.number + 1; up = true })
moved s path (Err fault) = s

-- the sender after a SEND on the path
abbrev pub after_send : SenderState → Path → SenderState
after_send s path = moved s path (answer s path)

-- no more is acknowledged than there are jobs, and no cursor is past the window
pub record IsWindowed (s : SenderState) : Type 0 where
  pub acked : s.acked ≤ length s.jobs
  pub one : s.one.cursor ≤ window_end s
  pub two : s.two.cursor ≤ window_end s

-- the same of at most 20,000 jobs
pub record IsSender (s : SenderState) : Type 0 where
  pub jobs : length s.jobs ≤ 20000
  pub windowed : IsWindowed s
