-- The lanes of a chart: when a bit changes, and what each side is.
use Rattle.std.specs.Prelude.{ℕ, ◌+◌, ◌/◌, ◌%◌, ◌^◌, ◌==◌, ◌≡◌, Bool, not, false, List, [], ◌∷◌, Option, Some, None, slice_index_or, unwrap_or, if◌then◌else◌}
use Rattle.trace_reader.specs.declared.trace.Entry.{Entry}
use Rattle.trace_reader.specs.declared.trace.Request.{Request}
use Rattle.trace_reader.specs.declared.trace.Request.TheVariants as asks
use Rattle.trace_reader.specs.declared.trace.Answer.{Answer}
use Rattle.trace_reader.specs.declared.trace.Answer.TheVariants as answers
use Rattle.trace_chart.specs.declared.lanes.Area.{Area}
use Rattle.trace_chart.specs.declared.lanes.Area.TheVariants.{Input, Output}
use Rattle.trace_chart.specs.declared.lanes.Signal.{Signal}
use Rattle.trace_chart.specs.declared.lanes.Change.{Change}
use Rattle.trace_chart.specs.declared.lanes.Lane.{Lane}

-- a bit of an image: 0 where the image has no such byte
abbrev pub bit_of : List ℕ → ℕ → ℕ → Bool
bit_of bytes byte bit = slice_index_or bytes byte 0 / 2 ^ bit % 2 == 1

-- what an entry says of an output: the image that it puts out
abbrev pub output_said : Request → ℕ → ℕ → Option Bool
output_said (asks.Outputs bytes) byte bit = Some (bit_of bytes byte bit)
output_said asks.Inputs byte bit = None
output_said asks.Cycle byte bit = None
output_said (asks.ReadPeripheral at width) byte bit = None
output_said (asks.WritePeripheral at width value) byte bit = None
output_said asks.Now byte bit = None
output_said asks.Tick byte bit = None
output_said asks.Retrigger byte bit = None
output_said (asks.Reply value) byte bit = None
output_said (asks.Stop code) byte bit = None

-- what an entry says of an input: the image that it takes in
abbrev pub input_said : Answer → ℕ → ℕ → Option Bool
input_said (answers.Image bytes) byte bit = Some (bit_of bytes byte bit)
input_said (answers.Value value) byte bit = None
input_said (answers.Now moment) byte bit = None
input_said answers.Done byte bit = None
input_said answers.Go byte bit = None
input_said answers.Hold byte bit = None
input_said answers.NoModule byte bit = None
input_said (answers.Alarm ob info) byte bit = None
input_said (answers.ReadJob place) byte bit = None
input_said (answers.WriteJob place value) byte bit = None
input_said (answers.Lost side why) byte bit = None
input_said (answers.Back side) byte bit = None
input_said (answers.CpuStop code) byte bit = None

abbrev pub said : Area → Entry → ℕ → ℕ → Option Bool
said Input entry byte bit = input_said entry.answer byte bit
said Output entry byte bit = output_said entry.request byte bit

-- the value of a signal after an entry, where it had this one before
abbrev pub value_after : Signal → Bool → Entry → Bool
value_after signal value entry = unwrap_or (said signal.area entry signal.byte signal.bit) value

-- a signal has another value now than before
abbrev pub differs : Bool → Bool → Bool
differs now value = if now then not value else value

-- the changes of a signal from entry k on, where it has this value before: each is at the moment of its entry
abbrev pub changes_from : Signal → ℕ → Bool → List Entry → List Change
changes_from signal k value [] = []
changes_from signal k value (entry ∷ entries) =
    if differs (value_after signal value entry) value
    then record { moment = k; value = value_after signal value entry } ∷ changes_from signal (k + 1) (value_after signal value entry) entries
    else changes_from signal (k + 1) value entries

-- all changes of a signal, in order. It is 0 at first
abbrev pub changes_of : Signal → List Entry → List Change
changes_of signal entries = changes_from signal 0 false entries

-- a lane has all changes of its signal, in order
abbrev pub IsLaneOf : List Entry → Lane → Type 0
IsLaneOf entries lane = lane.changes.items ≡ changes_of lane.signal entries
