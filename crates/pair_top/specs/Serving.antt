-- What a call of the program answers and leaves.
use Rattle.std.specs.Prelude.{◌≡◌, ℕ, ◌+◌, ◌≤◌, ◌<◌, ◌⊎◌, Bool, List, [], ◌∷◌, length, Option, Some, None, Ok, Err}
use Rattle.std.specs.Io.KnownBytes.{Appends}
use Rattle.pair_io.specs.Bytes.{AppendsFront}
use Rattle.pair_io.specs.Causes.{Rose}
use Rattle.s7_events.specs.declared.entry.Side.{Side}
use Rattle.s7_events.specs.declared.entry.Side.TheVariants.{A, B}
use Rattle.s7_events.specs.declared.entry.Entry.{Entry}
use Rattle.s7_base.specs.Blocks.{Program}
use Rattle.pair_core.specs.declared.endings.Ended.{Ended}
use Rattle.pair_core.specs.declared.endings.Ended.TheVariants.{NotPlayed}
use Rattle.pair_top.specs.declared.faults.Fault.{Fault}
use Rattle.pair_top.specs.declared.faults.Fault.TheVariants.{FileFault, TooLong, SourceFault, ScriptFault, SinkFault, NoMemory}
use Rattle.pair_top.specs.declared.errors.PlayError.{PlayError}
use Rattle.pair_top.specs.declared.errors.PlayError.TheVariants as refusals
use Rattle.pair_top.specs.Errors.{play_fault}
use Rattle.plant_script.specs.Plan.{Plan}
use Rattle.subsystem.specs.Part.{Part, IsNew, IsOpen, first_life}
use Rattle.pair_core.specs.Played.{IsRun, IsSideOf, answers_of}
use Rattle.pair_core.specs.Setup.{Setup}
use Rattle.pair_core.specs.World.{World, first_world, play}
use Rattle.pair_core.specs.Finished.{ended_by}
use Rattle.pair_top.specs.Outside.{File, Written}
use Rattle.pair_top.specs.Reading.{limit, IsSteady, HasFailed, IsRefused, CountsOnly, IsLoaded, IsPlanned, IsFaulty, IsNoScript}
use Rattle.stl_lex.specs.declared.fault.LoadFault.{LoadFault}
use Rattle.block_loader.specs.Load.{meaning_of}
use Rattle.plant_script.specs.declared.script_error.ScriptFault as scripts
use Rattle.plant_script.specs.SecondPass.{script_of}
use Rattle.trace_text.specs.CpuTail.{tail_of}
use Rattle.trace_text.specs.Tail.{Tail}
use Rattle.pair_core.specs.Endings.{HasTail}
use Rattle.trace_text.specs.Text.{text}
use Rattle.pair_top.specs.Orders.{Manner, is_alone, visits_for, mode_for}
use Rattle.pair_top.specs.Playing.{ComesTo}

-- a call --

-- what a call tells of a play: the record, its showings and its end
pub record Account : Type 0 where
  pub entries : List Entry
  pub shown : List (ℕ × Side)
  pub ended : Ended

abbrev pub account_of : List Entry → List (ℕ × Side) → Ended → Account
account_of entries shown ended = record { entries = entries; shown = shown; ended = ended }

-- what a pair is made for
abbrev pub setup_of : Program → Plan → Bool → Setup
setup_of program plan solo = record { program = program; plan = plan; solo = solo }

-- what is told of a world that visits came to
abbrev pub account_in : Setup → World → Account
account_in p w = account_of w.log.entries w.log.shown (ended_by p w)

-- a play that ended in a world: its record is the standard CPU's and lawful, and the rest follows from it
pub record IsFinished (p : Setup) (w : World) (account : Account) (a b : Part) : Type 0 where
  pub visited : account ≡ account_in p w
  pub run : IsRun p.program p.plan p.solo account.entries account.shown account.ended
  pub first : IsSideOf p.program p.plan p.solo account.entries account.shown account.ended A a
  pub second : IsSideOf p.program p.plan p.solo account.entries account.shown account.ended B b

-- a play of a program and a plan: the world is that of the visits which were ordered
abbrev pub IsPlay : Manner → Program → Plan → Account → Part → Part → Type 0
IsPlay manner program plan account a b =
    IsFinished (setup_of program plan (is_alone manner))
    (play (setup_of program plan (is_alone manner)) (first_world (is_alone manner)) (visits_for manner plan)) account a b

-- a subsystem is open, and shows the CPU after this record
abbrev pub ComesToTail : Program → List Entry → Part → Type 0
ComesToTail program entries part = ComesTo program (answers_of entries) (tail_of part.machine) × IsOpen part

-- where the text has a tail it shows the CPU after this record
abbrev pub IsTailOf : Program → Account → Tail → Type 0
IsTailOf program account tail = HasTail account.ended → ComesTo program (answers_of account.entries) tail

abbrev pub play_text : Manner → Account → Tail → List ℕ
play_text manner account tail = text (mode_for manner) account.entries account.shown account.ended tail

-- both files were read whole and accepted
pub record AreAccepted (source script : Option (List ℕ)) (program : Program) (plan : Plan) : Type 0 where
  pub accepted : IsLoaded source program
  pub planned : IsPlanned script plan

-- nothing was played
pub record IsUnplayed (account : Account) : Type 0 where
  pub entries : account.entries ≡ []
  pub shown : account.shown ≡ []
  pub ended : account.ended ≡ NotPlayed

-- nothing was played and nothing written
pub record IsQuiet (sink : Written) (account : Account) : Type 0 where
  pub unplayed : IsUnplayed account
  pub bytes : sink.new ≡ sink.old
  pub faults : sink.now ≡ sink.before

-- both subsystems are as they were made
pub record AreNew (a b : Part) : Type 0 where
  pub first : IsNew a
  pub second : IsNew b

-- a subsystem is as it was made, or was loaded and took no entry
abbrev pub IsUnused : Part → Type 0
IsUnused part = IsNew part ⊎ (part.lives ≡ first_life ∷ [])

pub record AreUnused (a b : Part) : Type 0 where
  pub first : IsUnused a
  pub second : IsUnused b

-- what a refusal leaves of both subsystems: they are as they were made; where memory ran out one may have been loaded, and
-- took no entry
abbrev pub AreLeft : Fault → Part → Part → Type 0
AreLeft NoMemory a b = AreUnused a b
AreLeft fault a b = AreNew a b

-- why the files of a play were refused, and that the files before the refused one were read whole and accepted
abbrev pub IsCause : File → File → PlayError → Type 0
IsCause source script (refusals.Source error) = IsRefused IsFaulty source error
IsCause source script (refusals.Script error) = (program : Program) × IsLoaded source.content program × IsRefused IsNoScript script error

-- this fault tells why a play was refused
pub record IsRefusal (source script : File) (fault : Fault) : Type 0 where
  pub error : PlayError
  pub told_as : fault ≡ play_fault error
  pub cause : IsCause source script error

-- a file counted a fault only where one failed
abbrev pub PlayCounts : PlayError → File → Type 0
PlayCounts (refusals.Source error) file = CountsOnly error file
PlayCounts (refusals.Script error) file = CountsOnly error file

-- the counts of the files are as before, but where a file failed
abbrev pub AreSteady : Option Fault → File → File → Type 0
AreSteady (Some (FileFault which)) source script = Unit {0}
AreSteady fault source script = IsSteady source × IsSteady script

-- the sink counted a fault, and had not promised to take these bytes
abbrev pub HasRefused : List ℕ → Written → Type 0
HasRefused bytes sink = Rose sink.before sink.now × ((more : ℕ) → sink.takes (length bytes + more) → ⊥)

-- The text was written; or the sink counted a fault, without a promise to take the text, and took a prefix of it.
abbrev pub IsWriting : List ℕ → Written → Option Fault → Type 0
IsWriting bytes sink None = Appends sink.old sink.new bytes × (sink.now ≡ sink.before)
IsWriting bytes sink (Some SinkFault) = AppendsFront sink.old sink.new bytes × HasRefused bytes sink
IsWriting bytes sink (Some fault) = ⊥

-- a play was made, and its text was written
abbrev pub IsPlayed : Manner → Program → Plan → Written → Account → Part → Part → Option Fault → Type 0
IsPlayed manner program plan sink account a b fault =
    IsPlay manner program plan account a b × (tail : Tail) × IsTailOf program account tail × IsWriting (play_text manner account tail) sink fault

-- What a play of an accepted source and script answers and leaves. Done, or with a fault of the sink: the play, and its
-- text or a prefix of it. Without memory: nothing played and nothing written, and no side took an entry.
abbrev pub IsOutcome : Manner → Program → Plan → Written → Account → Part → Part → Option Fault → Type 0
IsOutcome manner program plan sink account a b None = IsPlayed manner program plan sink account a b None
IsOutcome manner program plan sink account a b (Some SinkFault) = IsPlayed manner program plan sink account a b (Some SinkFault)
IsOutcome manner program plan sink account a b (Some NoMemory) = IsQuiet sink account × AreUnused a b
IsOutcome manner program plan sink account a b (Some fault) = ⊥

-- both files were read whole and accepted, and this is a play of them
abbrev pub IsPlayOf : Manner → File → File → Written → Account → Part → Part → Option Fault → Type 0
IsPlayOf manner source script sink account a b fault =
    (program : Program) × (plan : Plan) × AreAccepted source.content script.content program plan × IsPlayed manner program plan sink account a b fault

-- What a call that plays answers and leaves. With every fault but one of the sink: its cause, nothing played, nothing written,
-- and what is left of the subsystems.
abbrev pub PlayServed : Manner → File → File → Written → Account → Part → Part → Option Fault → Type 0
PlayServed manner source script sink account a b None = IsPlayOf manner source script sink account a b None
PlayServed manner source script sink account a b (Some SinkFault) = IsPlayOf manner source script sink account a b (Some SinkFault)
PlayServed manner source script sink account a b (Some fault) = IsRefusal source script fault × IsQuiet sink account × AreLeft fault a b

-- completeness --

-- done to its end, but for want of memory
abbrev pub IsDone : Option Fault → Type 0
IsDone None = Unit {0}
IsDone (Some NoMemory) = Unit {0}
IsDone (Some fault) = ⊥

-- where this fault of the file of a number is due it comes, or a file of at most this number fails before it, or memory runs out
abbrev pub IsDue : ℕ → Fault → Option Fault → Type 0
IsDue number due None = ⊥
IsDue number due (Some NoMemory) = Unit {0}
IsDue number due (Some (FileFault which)) = which ≤ number
IsDue number due (Some fault) = fault ≡ due

-- a file tells these bytes, within the limit
pub record Tells (file : File) (bytes : List ℕ) : Type 0 where
  pub told : file.content ≡ Some bytes
  pub fits : length bytes ≤ limit

-- a file tells more bytes than the limit
pub record TellsTooMuch (file : File) : Type 0 where
  pub bytes : List ℕ
  pub told : file.content ≡ Some bytes
  pub long : limit < length bytes

-- a file tells a source whose program is one that is played
pub record TellsSource (file : File) : Type 0 where
  pub bytes : List ℕ
  pub tells : Tells file bytes
  pub program : Program
  pub meaning : meaning_of bytes ≡ Ok program

-- a file tells a source that isn't played, with this fault
pub record TellsNoSource (file : File) (due : LoadFault) : Type 0 where
  pub bytes : List ℕ
  pub tells : Tells file bytes
  pub cause : meaning_of bytes ≡ Err due

-- a file tells a plant script that is played
pub record TellsScript (file : File) : Type 0 where
  pub bytes : List ℕ
  pub tells : Tells file bytes
  pub plan : Plan
  pub script : script_of bytes ≡ Ok plan

-- a file tells a plant script that isn't played, with this fault
pub record TellsNoScript (file : File) (due : scripts.ScriptFault) : Type 0 where
  pub bytes : List ℕ
  pub tells : Tells file bytes
  pub cause : script_of bytes ≡ Err due

-- Each refusal that is due comes, but for a file that fails before it, or want of memory; and where nothing is due and
-- nothing outside fails, the command is done to its end, but for want of memory.
pub record GivesWhatIsDue (source script : File) (sink : Written) (fault : Option Fault) : Type 0 where
  pub long_source : TellsTooMuch source → IsDue 0 (TooLong 0) fault
  pub no_source : (due : LoadFault) → TellsNoSource source due → IsDue 0 (SourceFault due) fault
  pub long_script : TellsSource source → TellsTooMuch script → IsDue 1 (TooLong 1) fault
  pub no_script : (due : scripts.ScriptFault) → TellsSource source → TellsNoScript script due → IsDue 1 (ScriptFault due) fault
  pub complete : TellsSource source → TellsScript script → (HasFailed source → ⊥) → (HasFailed script → ⊥)
      → (Rose sink.before sink.now → ⊥) → IsDone fault
