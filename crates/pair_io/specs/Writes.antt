-- What a call that writes a text leaves in a sink.
use Rattle.std.specs.Prelude.{ℕ, ◌+◌, List, length, Option, Result, OnOk, OnErr, IsOk}
use Rattle.std.specs.Io.KnownBytes.{Appends}
use Rattle.pair_io.specs.Bytes.{AppendsFront}
use Rattle.pair_io.specs.Causes.{Counts}

-- what contracts see of a sink: its bytes where they are told, its count of faults, and how many more bytes it promises to take
pub record SinkState : Type 1 where
  pub written : Option (List ℕ)
  pub faults : ℕ
  pub takes : ℕ → Type 0

abbrev pub state_of : Option (List ℕ) → ℕ → (ℕ → Type 0) → SinkState
state_of written faults takes = record { written = written; faults = faults; takes = takes }

-- At `Ok` the whole text was added, at `Err` a front of it, and a fault was counted; where the sink promised to take the
-- text, it was added.
pub record Writes {T E : Type 0} (old new : SinkState) (text : List ℕ) (result : Result T E) : Type 0 where
  pub ok : OnOk result (Appends old.written new.written text)
  pub err : OnErr result (AppendsFront old.written new.written text)
  pub cause : Counts old.faults new.faults result
  pub kept : (more : ℕ) → old.takes (length text + more) → IsOk result × new.takes more

-- the same, in the members of a sink
abbrev pub Prints : {S T E : Type 0} → (S → Option (List ℕ)) → (S → ℕ) → (S → ℕ → Type 0) → S → S → List ℕ → Result T E → Type 0
Prints written faults takes old new text result =
    Writes (state_of (written old) (faults old) (takes old)) (state_of (written new) (faults new) (takes new)) text result
