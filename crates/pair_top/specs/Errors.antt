-- The fault that tells why a file was refused.
use Rattle.std.specs.Prelude.{ℕ}
use Rattle.pair_io.specs.declared.files.FilesError.{FilesError}
use Rattle.pair_io.specs.declared.files.FilesError.TheVariants as unread
use Rattle.stl_lex.specs.declared.fault.LoadFault.{LoadFault}
use Rattle.plant_script.specs.declared.script_error.ScriptFault as scripts
use Rattle.pair_top.specs.declared.errors.FileError.{FileError}
use Rattle.pair_top.specs.declared.errors.FileError.TheVariants as errors
use Rattle.pair_top.specs.declared.errors.PlayError.{PlayError}
use Rattle.pair_top.specs.declared.errors.PlayError.TheVariants as refusals
use Rattle.pair_top.specs.declared.faults.Fault.{Fault}
use Rattle.pair_top.specs.declared.faults.Fault.TheVariants.{FileFault, TooLong, SourceFault, ScriptFault, NoMemory}

-- of a file that was not read; `which` is its number
abbrev pub read_fault : ℕ → FilesError → Fault
read_fault which unread.Failed = FileFault which
read_fault which unread.TooLong = TooLong which
read_fault which unread.NoMemory = NoMemory

-- of a file that was refused; `content` tells a fault of its content
abbrev pub told_of : {E : Type 0} → ℕ → (E → Fault) → FileError E → Fault
told_of which content (errors.Unread error) = read_fault which error
told_of which content (errors.Content fault) = content fault
told_of which content errors.NoMemory = NoMemory

-- of a source, which is file 0
abbrev pub source_fault : FileError LoadFault → Fault
source_fault error = told_of 0 (λ fault. SourceFault fault) error

-- of a script or a file of events, which is file 1
abbrev pub script_fault : FileError scripts.ScriptFault → Fault
script_fault error = told_of 1 (λ fault. ScriptFault fault) error

-- of the files of a play
abbrev pub play_fault : PlayError → Fault
play_fault (refusals.Source error) = source_fault error
play_fault (refusals.Script error) = script_fault error
