-- What a call that plays the events of a connection answers and leaves.
use Rattle.std.specs.Prelude.{◌≡◌, ℕ, List, Option, Some, None, Ok, Err}
use Rattle.pair_io.specs.Causes.{Rose}
use Rattle.plant_script.specs.declared.script_error.ScriptFault as scripts
use Rattle.ft_connection.specs.declared.conn_error.ConnError.TheVariants as connections
use Rattle.ft_connection.specs.declared.player.Played.{Played}
use Rattle.ft_connection.specs.Outcome.{outcome}
use Rattle.pair_top.specs.declared.faults.Fault.{Fault}
use Rattle.pair_top.specs.declared.faults.Fault.TheVariants.{TooLong, ScriptFault, SinkFault}
use Rattle.pair_top.specs.Errors.{script_fault}
use Rattle.pair_top.specs.Outside.{File, Written}
use Rattle.pair_top.specs.Reading.{HasFailed, WasRead, IsRefusalOf}
use Rattle.pair_top.specs.Serving.{Account, IsQuiet, IsUnplayed, IsWriting, IsDue, IsDone, Tells, TellsTooMuch}

-- a file was read whole, and playing its events gives this
pub record IsConnected (content : Option (List ℕ)) (played : Played) : Type 0 where
  pub bytes : List ℕ
  pub read : WasRead content bytes
  pub gives : outcome bytes ≡ Ok played

-- a file was read whole, and its events have this fault
pub record HasBadEvents (content : Option (List ℕ)) (fault : scripts.ScriptFault) : Type 0 where
  pub bytes : List ℕ
  pub read : WasRead content bytes
  pub gives : outcome bytes ≡ Err (connections.Fault fault.kind fault.line)

-- why events were not played
abbrev pub IsConnectRefusal : File → Fault → Type 0
IsConnectRefusal file fault = IsRefusalOf script_fault HasBadEvents file fault

-- a file of events was read whole, no record was made, and the text of the connection was written
abbrev pub IsShown : File → Written → Account → Option Fault → Type 0
IsShown events sink account fault =
    (played : Played) × IsConnected events.content played × IsUnplayed account × IsWriting played.text sink fault

-- What a call that plays events answers and leaves. Done, or with a fault of the sink: the text or a prefix of it. With
-- every other fault: its cause, and nothing written.
abbrev pub ConnectServed : File → Written → Account → Option Fault → Type 0
ConnectServed events sink account None = IsShown events sink account None
ConnectServed events sink account (Some SinkFault) = IsShown events sink account (Some SinkFault)
ConnectServed events sink account (Some fault) = IsConnectRefusal events fault × IsQuiet sink account

-- completeness --

-- a file tells events that are played
pub record TellsConnection (file : File) : Type 0 where
  pub bytes : List ℕ
  pub tells : Tells file bytes
  pub played : Played
  pub gives : outcome bytes ≡ Ok played

-- a file tells events with this fault
pub record TellsBadEvents (file : File) (due : scripts.ScriptFault) : Type 0 where
  pub bytes : List ℕ
  pub tells : Tells file bytes
  pub gives : outcome bytes ≡ Err (connections.Fault due.kind due.line)

-- Each refusal that is due comes, but for a file that fails, or out of memory; and where nothing is due and nothing outside fails,
-- the text is written, but for out of memory.
pub record ConnectsWhatIsDue (events : File) (sink : Written) (fault : Option Fault) : Type 0 where
  pub long_events : TellsTooMuch events → IsDue 1 (TooLong 1) fault
  pub first_fault : (due : scripts.ScriptFault) → TellsBadEvents events due → IsDue 1 (ScriptFault due) fault
  pub complete : TellsConnection events → (HasFailed events → ⊥) → (Rose sink.before sink.now → ⊥) → IsDone fault
