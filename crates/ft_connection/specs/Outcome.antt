-- What playing a file gives.
use Rattle.std.specs.Prelude.{◌≡◌, ℕ, List, [], ◌∷◌, ◌++◌, map, take, Option, Some, None, Result, Ok, Err, if◌then◌else◌}
use Rattle.ft_connection.specs.declared.conn_error.ConnError.{ConnError}
use Rattle.ft_connection.specs.declared.conn_error.ConnError.TheVariants.{Fault}
use Rattle.ft_connection.specs.declared.event.Event.{Event}
use Rattle.ft_connection.specs.declared.event.NumberedEvent.{NumberedEvent}
use Rattle.ft_connection.specs.declared.player.Played.{Played}
use Rattle.ft_connection.specs.World.{World, first, step, is_named, run}
use Rattle.ft_connection.specs.EventText.{events_text, done_text}
use Rattle.ft_connection.specs.FileReading.{Read, file_read}
use Rattle.ft_connection.specs.Playing.{Playing}

-- the events without their lines
abbrev pub events_of : List NumberedEvent → List Event
events_of numbered = map (λ n. n.event) numbered

-- the line of the first event that names nothing that was sent by then
abbrev pub first_unnamed : World → List NumberedEvent → Option ℕ
first_unnamed w [] = None
first_unnamed w (n ∷ ns) = if is_named w n.event then first_unnamed (step w n.event) ns else Some n.line

-- the world after all events
abbrev pub last_world : Read → World
last_world read = run (first read.jobs) (events_of read.events)

-- the text of all events and its last line
abbrev pub whole_text : Read → List ℕ
whole_text read =
    events_text (first read.jobs) (events_of read.events) ++ done_text (last_world read).handed (last_world read).sender.acked

-- what is shown where each event names what was sent by then
abbrev pub shown : Read → Played
shown read =
    record {
      handed = take (last_world read).handed read.jobs;
      acked = (last_world read).sender.acked;
      text = whole_text read;
    }

-- what is shown after events were played
abbrev pub playing_shown : Result Playing ConnError → Result Played ConnError
playing_shown (Ok p) =
    Ok (record {
      handed = p.handed;
      acked = p.world.sender.acked;
      text = p.text ++ done_text p.world.handed p.world.sender.acked;
    })
playing_shown (Err fault) = Err fault

-- a file that says this is played, or has the fault of its first event that names nothing
abbrev pub judged : Read → Option ℕ → Result Played ConnError
judged read None = Ok (shown read)
judged read (Some line) = Err (Fault 12 line)

-- what was read is judged, and what could not be read has its fault
abbrev pub outcome_of : Result Read ConnError → Result Played ConnError
outcome_of (Ok read) = judged read (first_unnamed (first read.jobs) read.events)
outcome_of (Err fault) = Err fault

-- what playing a file gives
abbrev pub outcome : List ℕ → Result Played ConnError
outcome bytes = outcome_of (file_read bytes)

-- a file was played: it says this, no event names what was not sent by then, and this is shown
pub record IsPlayed (bytes : List ℕ) (played : Played) : Type 0 where
  pub says : Read
  pub read : file_read bytes ≡ Ok says
  pub named : first_unnamed (first says.jobs) says.events ≡ None
  pub handed : played.handed ≡ take (last_world says).handed says.jobs
  pub acked : played.acked ≡ (last_world says).sender.acked
  pub text : played.text ≡ whole_text says
