-- What a call that tells the blocks of a source answers and leaves; and what each call does, by its command.
use Rattle.std.specs.Prelude.{◌≡◌, ℕ, List, Option, Some, None, Ok, Err}
use Rattle.pair_io.specs.Causes.{Rose}
use Rattle.s7_base.specs.Blocks.{Program}
use Rattle.stl_lex.specs.declared.fault.LoadFault.{LoadFault}
use Rattle.block_loader.specs.Load.{meaning_of}
use Rattle.trace_printer.specs.LoadText.{load_text}
use Rattle.subsystem.specs.Part.{Part}
use Rattle.pair_top.specs.declared.faults.Fault.{Fault}
use Rattle.pair_top.specs.declared.faults.Fault.TheVariants.{Usage, FileFault, TooLong, SourceFault, SinkFault}
use Rattle.pair_top.specs.Outside.{File, Written, Outside}
use Rattle.pair_top.specs.Reading.{IsSteady, HasFailed, IsLoaded, IsLoadRefusal}
use Rattle.pair_top.specs.Orders.{Order, play, load, connect, make}
use Rattle.pair_top.specs.Connecting.{ConnectServed, ConnectsWhatIsDue}
use Rattle.pair_top.specs.Making.{MakeServed, MakesWhatIsDue}
use Rattle.pair_top.specs.Serving.{Account, IsQuiet, IsUnplayed, IsWriting, PlayServed, AreSteady, AreNew, IsDue, IsDone, Tells, TellsTooMuch, GivesWhatIsDue}

-- a source was read whole, nothing was played, and the text of its blocks was written
abbrev pub AreTold : File → Written → Account → Option Fault → Type 0
AreTold source sink account fault =
    (program : Program) × IsLoaded source.content program × IsUnplayed account × IsWriting (load_text program) sink fault

-- What a call that tells blocks answers and leaves. Done, or with a fault of the sink: the text or a front of it. With
-- every other fault: its cause, and nothing written.
abbrev pub LoadServed : File → Written → Account → Option Fault → Type 0
LoadServed source sink account None = AreTold source sink account None
LoadServed source sink account (Some SinkFault) = AreTold source sink account (Some SinkFault)
LoadServed source sink account (Some fault) = IsLoadRefusal source fault × IsQuiet sink account

-- the count of the file is as before, but where it failed
abbrev pub IsSteadyUnless : Option Fault → File → Type 0
IsSteadyUnless (Some (FileFault which)) source = Unit {0}
IsSteadyUnless fault source = IsSteady source

-- What a call answers and leaves, by its command. A call that plays nothing leaves both subsystems as they were made, and a call
-- that plays what it made reads no file.
abbrev pub Served : Option Order → Outside → Account → Part → Part → Option Fault → Type 0
Served None outside account a b fault = (fault ≡ Some Usage) × IsQuiet outside.sink account × AreNew a b
Served (Some (play manner source script)) outside account a b fault =
    PlayServed manner (outside.file source) (outside.file script) outside.sink account a b fault
    × AreSteady fault (outside.file source) (outside.file script)
Served (Some (load source)) outside account a b fault =
    LoadServed (outside.file source) outside.sink account fault × IsSteadyUnless fault (outside.file source) × AreNew a b
Served (Some (connect events)) outside account a b fault =
    ConnectServed (outside.file events) outside.sink account fault × IsSteadyUnless fault (outside.file events) × AreNew a b
Served (Some (make moments)) outside account a b fault =
    MakeServed moments outside.sink account a b fault × ((name : List ℕ) → IsSteady (outside.file name))

-- completeness --

-- a file tells a source of this program
pub record TellsProgram (file : File) : Type 0 where
  pub bytes : List ℕ
  pub tells : Tells file bytes
  pub program : Program
  pub meaning : meaning_of bytes ≡ Ok program

-- a file tells a source whose first fault this is
pub record TellsFault (file : File) (due : LoadFault) : Type 0 where
  pub bytes : List ℕ
  pub tells : Tells file bytes
  pub meaning : meaning_of bytes ≡ Err due

-- The same of a call that tells blocks.
pub record LoadsWhatIsDue (source : File) (sink : Written) (fault : Option Fault) : Type 0 where
  pub long_source : TellsTooMuch source → IsDue 0 (TooLong 0) fault
  pub first_fault : (due : LoadFault) → TellsFault source due → IsDue 0 (SourceFault due) fault
  pub complete : TellsProgram source → (HasFailed source → ⊥) → (Rose sink.before sink.now → ⊥) → IsDone fault

-- each refusal that is due comes, and where none is the command is done, by the command
abbrev pub DueServed : Option Order → Outside → Option Fault → Type 0
DueServed None outside fault = Unit {0}
DueServed (Some (play manner source script)) outside fault = GivesWhatIsDue (outside.file source) (outside.file script) outside.sink fault
DueServed (Some (load source)) outside fault = LoadsWhatIsDue (outside.file source) outside.sink fault
DueServed (Some (connect events)) outside fault = ConnectsWhatIsDue (outside.file events) outside.sink fault
DueServed (Some (make moments)) outside fault = MakesWhatIsDue outside.sink fault
