-- What it means that a file was read, and accepted or refused.
use Rattle.std.specs.Prelude.{◌≡◌, ℕ, ◌<◌, ◌≤◌, List, length, Option, Some, None, IfSome, Result, Ok, Err}
use Rattle.pair_io.specs.Causes.{Rose}
use Rattle.pair_io.specs.declared.files.FilesError.{FilesError}
use Rattle.pair_io.specs.declared.files.FilesError.TheVariants as unread
use Rattle.s7_base.specs.Blocks.{Program}
use Rattle.stl_lex.specs.declared.fault.LoadFault.{LoadFault}
use Rattle.block_loader.specs.Load.{meaning_of}
use Rattle.pair_top.specs.declared.faults.Fault.{Fault}
use Rattle.pair_top.specs.declared.errors.FileError.{FileError}
use Rattle.pair_top.specs.declared.errors.FileError.TheVariants as errors
use Rattle.pair_top.specs.Errors.{source_fault}
use Rattle.pair_top.specs.Outside.{File}
use Rattle.plant_script.specs.declared.script_error.ScriptFault as scripts
use Rattle.plant_script.specs.Plan.{Plan}
use Rattle.plant_script.specs.SecondPass.{script_of}

-- the most bytes of a source or a script
abbrev pub limit : ℕ
limit = 1048576

-- no fault of the file was counted
abbrev pub IsSteady : File → Type 0
IsSteady file = file.now ≡ file.before

-- a fault of the file was counted, and reads of it were not promised to be without one
abbrev pub HasFailed : File → Type 0
HasFailed file = Rose file.before file.now × (file.never_fails → ⊥)

-- A file was read whole: these are its bytes. Where it tells no content, only their number is known.
pub record WasRead (content : Option (List ℕ)) (bytes : List ℕ) : Type 0 where
  pub whole : IfSome content (λ told. bytes ≡ told)
  pub fits : length bytes ≤ limit

-- a file has more bytes than the limit
abbrev pub IsTooLong : Option (List ℕ) → Type 0
IsTooLong content = IfSome content (λ told. limit < length told)

-- a file was read whole, and its source has this program
pub record IsLoaded (content : Option (List ℕ)) (program : Program) : Type 0 where
  pub bytes : List ℕ
  pub read : WasRead content bytes
  pub meaning : meaning_of bytes ≡ Ok program

-- a file was read whole, and this is the first fault of its source
pub record IsFaulty (content : Option (List ℕ)) (fault : LoadFault) : Type 0 where
  pub bytes : List ℕ
  pub read : WasRead content bytes
  pub meaning : meaning_of bytes ≡ Err fault

-- a file was read whole, and is a script of this plan
pub record IsPlanned (content : Option (List ℕ)) (plan : Plan) : Type 0 where
  pub bytes : List ℕ
  pub read : WasRead content bytes
  pub script : script_of bytes ≡ Ok plan

-- a file was read whole, and this is the first fault of its script
pub record IsNoScript (content : Option (List ℕ)) (fault : scripts.ScriptFault) : Type 0 where
  pub bytes : List ℕ
  pub read : WasRead content bytes
  pub cause : script_of bytes ≡ Err fault

-- why a file was not read
abbrev pub IsUnread : File → FilesError → Type 0
IsUnread file unread.Failed = HasFailed file
IsUnread file unread.TooLong = IsTooLong file.content
IsUnread file unread.NoMemory = Unit {0}

-- why a file was refused, by what it means that a content has a fault
abbrev pub IsRefused : {E : Type 0} → (Option (List ℕ) → E → Type 0) → File → FileError E → Type 0
IsRefused IsFault file (errors.Unread error) = IsUnread file error
IsRefused IsFault file (errors.Content fault) = IsFault file.content fault
IsRefused IsFault file errors.NoMemory = Unit {0}

-- this fault tells why a file was refused
pub record IsRefusalOf {E : Type 0} (told : FileError E → Fault) (IsFault : Option (List ℕ) → E → Type 0) (file : File) (fault : Fault) : Type 0 where
  pub error : FileError E
  pub told_as : fault ≡ told error
  pub cause : IsRefused IsFault file error

-- why a source was not loaded
abbrev pub IsLoadRefusal : File → Fault → Type 0
IsLoadRefusal file fault = IsRefusalOf source_fault IsFaulty file fault

-- a file that was not read counted a fault only where it failed
abbrev pub UnreadCounts : FilesError → File → Type 0
UnreadCounts unread.Failed file = Unit {0}
UnreadCounts unread.TooLong file = IsSteady file
UnreadCounts unread.NoMemory file = IsSteady file

-- and so did a file that was refused
abbrev pub CountsOnly : {E : Type 0} → FileError E → File → Type 0
CountsOnly (errors.Unread error) file = UnreadCounts error file
CountsOnly (errors.Content fault) file = IsSteady file
CountsOnly errors.NoMemory file = IsSteady file
