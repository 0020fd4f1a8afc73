-- What holds of every world.
use Rattle.std.specs.Prelude.{◌≡◌, ℕ, ◌≤◌, List, length, slice_get, Some, All}
use Rattle.ft_connection.specs.declared.frame.Frame.{Frame}
use Rattle.ft_connection.specs.SenderRule.{IsWindowed}
use Rattle.ft_connection.specs.World.{Wire, World}

-- the frame's job is the one of its number
abbrev pub IsOwn : List ℕ → Frame → Type 0
IsOwn jobs frame = slice_get jobs frame.number ≡ Some frame.job

-- no frame of a path names another job than its own, and no acknowledgement more jobs than are handed over
pub record IsSoundWire (jobs : List ℕ) (handed : ℕ) (wire : Wire) : Type 0 where
  pub frames : All (IsOwn jobs) wire.frames
  pub acks : All (λ next. next ≤ handed) wire.acks

-- no more is acknowledged than is handed over, and no more handed over than there are jobs
pub record IsSound (w : World) : Type 0 where
  pub handed : w.handed ≤ length w.sender.jobs
  pub acked : w.sender.acked ≤ w.handed
  pub windowed : IsWindowed w.sender
  pub one : IsSoundWire w.sender.jobs w.handed w.wires.one
  pub two : IsSoundWire w.sender.jobs w.handed w.wires.two
