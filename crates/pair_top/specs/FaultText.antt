-- The line that the program prints on a fault.
use Rattle.std.specs.Prelude.{◌≡◌, ℕ, zero, suc, List, ◌++◌, codes, Option, Some, None, ◌⊎◌}
use Rattle.std.specs.Fmt.{decimal}
use Rattle.std.specs.Io.KnownBytes.{Appends}
use Rattle.pair_io.specs.Bytes.{AppendsFront}
use Rattle.pair_top.specs.declared.faults.Fault.{Fault}
use Rattle.pair_top.specs.declared.faults.Fault.TheVariants.{Usage, FileFault, TooLong, SourceFault, ScriptFault, SinkFault, NoMemory, Differs}
use Rattle.pair_top.specs.Outside.{Written}
use Rattle.pair_top.specs.Serving.{HasRefused}

-- the name of a file by its number
abbrev pub file_word : ℕ → List ℕ
file_word zero = codes "source"
file_word (suc zero) = codes "script"
file_word (suc (suc n)) = codes "trace"

-- a fault with its kind and its line
abbrev pub numbered : List ℕ → ℕ → ℕ → List ℕ
numbered words kind line = words ++ (decimal kind ++ (codes " line " ++ decimal line))

abbrev pub fault_text : Fault → List ℕ
fault_text Usage = codes "usage"
fault_text (FileFault which) = codes "file fault " ++ file_word which
fault_text (TooLong which) = codes "too long " ++ file_word which
fault_text (SourceFault fault) = numbered (codes "source fault ") fault.kind fault.line
fault_text (ScriptFault fault) = numbered (codes "script fault ") fault.kind fault.line
fault_text SinkFault = codes "output fault"
fault_text NoMemory = codes "no memory"
fault_text (Differs line) = codes "differs line " ++ decimal line

-- the name of the program, the fault, and the end of the line
abbrev pub fault_line : Fault → List ℕ
fault_line fault = codes "s7h: " ++ (fault_text fault ++ codes "\n")

-- The line of the fault was written; or the sink counted a fault, without a promise to take the line, and took a prefix of it.
-- Where there is no fault nothing was written.
abbrev pub IsReported : Option Fault → Written → Type 0
IsReported None sink = (sink.new ≡ sink.old) × (sink.now ≡ sink.before)
IsReported (Some fault) sink =
    (Appends sink.old sink.new (fault_line fault) × (sink.now ≡ sink.before))
    ⊎ (AppendsFront sink.old sink.new (fault_line fault) × HasRefused (fault_line fault) sink)
