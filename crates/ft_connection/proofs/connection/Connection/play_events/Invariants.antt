use Rattle.std.proofs.Common.{◌≡◌, ◌≤◌, length, drop}
use Rattle.ft_connection.specs.Sound.{IsSound}
use Rattle.ft_connection.specs.Playing.{all_played}
use Rattle.ft_connection.specs.ConnectionView.{world_of, playing_of}
use Rattle.ft_connection.proofs.connection.Connection.play_events.Given as goal

abbrev pub invariant-loop-numbered : goal.invariant-loop-numbered
invariant-loop-numbered l =
    (all_played (playing_of l.self) (drop l.numbered-index l.events) ≡ all_played (playing_of l.fn.self) l.events)
    × IsSound (world_of l.self)
    × (length l.self.sender.jobs ≤ 20000)
