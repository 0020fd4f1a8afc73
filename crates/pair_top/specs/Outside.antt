-- What is outside a call, before it and after it: the file of each name, and the sink.
use Rattle.std.specs.Prelude.{ℕ, List, Option}
use Rattle.pair_io.specs.declared.files.Files.{Ghosts as FilesOf}
use Rattle.pair_io.specs.declared.sink.Sink.{Ghosts as SinkOf}

-- a file in a call: its content where it is told, the count of its faults before the call and after it, and the promise, where
-- one was made before the call, that reads of it do not fail
pub record File : Type 1 where
  pub content : Option (List ℕ)
  pub before : ℕ
  pub now : ℕ
  pub never_fails : Type 0

-- the file of a name in a call that found the files in one state and left them in another, by what files tell
abbrev pub file_in : {S : Type 0} → FilesOf S → S → S → List ℕ → File
file_in files old new name =
    record {
      content = files.content old name;
      before = files.faults old name;
      now = files.faults new name;
      never_fails = files.never_fails old name;
    }

-- the sink in a call: its bytes where they are told, and the count of its faults, before the call and after it; and the promise,
-- where one was made before the call, to take so many bytes without a fault
pub record Written : Type 1 where
  pub old : Option (List ℕ)
  pub new : Option (List ℕ)
  pub before : ℕ
  pub now : ℕ
  pub takes : ℕ → Type 0

-- the sink in a call that found it in one state and left it in another, by what a sink tells
abbrev pub sink_in : {S : Type 0} → SinkOf S → S → S → Written
sink_in sink old new =
    record { old = sink.written old; new = sink.written new; before = sink.faults old; now = sink.faults new; takes = sink.takes old }

-- all of it: the files by their names, and the sink
pub record Outside : Type 1 where
  pub file : List ℕ → File
  pub sink : Written

-- what is outside a call that found the files and the sink in some states and left them in others
abbrev pub outside_of : {F K : Type 0} → FilesOf F → F → F → SinkOf K → K → K → Outside
outside_of files found_files left_files sink found_sink left_sink =
    record { file = file_in files found_files left_files; sink = sink_in sink found_sink left_sink }
