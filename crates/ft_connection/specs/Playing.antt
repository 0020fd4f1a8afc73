-- A connection that is played: its world, the jobs handed over and the text so far.
use Rattle.std.specs.Prelude.{◌≡◌, ℕ, List, [], ◌∷◌, ◌++◌, true, false, Result, Ok, Err, if◌then◌else◌}
use Rattle.ft_connection.specs.declared.conn_error.ConnError.{ConnError}
use Rattle.ft_connection.specs.declared.conn_error.ConnError.TheVariants.{Fault, NoMemory}
use Rattle.ft_connection.specs.declared.event.Event.{Event}
use Rattle.ft_connection.specs.declared.event.NumberedEvent.{NumberedEvent}
use Rattle.ft_connection.specs.World.{World, first, step, is_named, event_jobs}
use Rattle.ft_connection.specs.EventText.{event_text}

pub record Playing : Type 0 where
  pub world : World
  pub handed : List ℕ
  pub text : List ℕ

-- the beginning
abbrev pub begun : List ℕ → Playing
begun jobs = record { world = first jobs; handed = []; text = [] }

-- after an event
abbrev pub goes_on : Playing → Event → Playing
goes_on p event =
    record {
      world = step p.world event;
      handed = p.handed ++ event_jobs p.world event;
      text = p.text ++ event_text p.world event;
    }

-- an event of this line was played, or names nothing, unless memory ran out
abbrev pub Plays : {A : Type 0} → Playing → ℕ → Event → Result A ConnError → Playing → Type 0
Plays before line event (Ok done) now = (is_named before.world event ≡ true) × (now ≡ goes_on before event)
Plays before line event (Err (Fault kind at)) now = (is_named before.world event ≡ false) × (kind ≡ 12) × (at ≡ line)
Plays before line event (Err NoMemory) now = Unit {0}

-- after the events of lines, or the fault of the first that names nothing that was sent by then
unfoldable pub all_played : Playing → List NumberedEvent → Result Playing ConnError
all_played p [] = Ok p
all_played p (n ∷ ns) = if is_named p.world n.event then all_played (goes_on p n.event) ns else Err (Fault 12 n.line)

-- what was returned is what playing gives, and what is held then, unless memory ran out
abbrev pub PlaysAll : {A : Type 0} → Result Playing ConnError → Result A ConnError → Playing → Type 0
PlaysAll given (Ok done) now = given ≡ Ok now
PlaysAll given (Err (Fault kind line)) now = given ≡ Err (Fault kind line)
PlaysAll given (Err NoMemory) now = Unit {0}
