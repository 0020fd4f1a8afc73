-- What the reader holds.
use Rattle.std.specs.Prelude.{◌≡◌, ℕ, Option, Some, None, Result, Ok, Err}
use Rattle.ft_connection.specs.declared.conn_error.ConnError.{ConnError}
use Rattle.ft_connection.specs.declared.conn_error.ConnError.TheVariants.{Fault, NoMemory}
use Rattle.ft_connection.specs.declared.reading.Reading.{Reading}
use Rattle.ft_connection.specs.FileReading.{Read}

-- what the reader has read
abbrev pub read_of : Reading → Read
read_of r = record { jobs = r.jobs.items; events = r.events.items; stage = r.stage }

-- a line was added as a definition says, or has the fault of its number, unless memory ran out
abbrev pub Adds : {A : Type 0} → Option Read → ℕ → Result A ConnError → Read → Type 0
Adds given number (Ok done) new = given ≡ Some new
Adds given number (Err (Fault kind line)) new = (given ≡ None) × (kind ≡ 11) × (line ≡ number)
Adds given number (Err NoMemory) new = Unit {0}
