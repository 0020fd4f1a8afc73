-- The text of a trace.
use Rattle.std.specs.Prelude.{ℕ, ◌+◌, List, [], ◌∷◌, ◌++◌, length, Option, Some, None, codes}
use Rattle.std.specs.List.{flat_map}
use Rattle.std.specs.Fmt.{decimal}
use Rattle.trace_reader.specs.declared.trace.Mode.{Mode}
use Rattle.trace_reader.specs.declared.trace.Mode.TheVariants.{Solo, Pair}
use Rattle.trace_reader.specs.declared.trace.Side.{Side}
use Rattle.trace_reader.specs.declared.trace.Side.TheVariants as sides
use Rattle.trace_reader.specs.declared.trace.Loss.{Loss}
use Rattle.trace_reader.specs.declared.trace.Loss.TheVariants.{Failed, Suspect}
use Rattle.trace_reader.specs.declared.trace.StopCode.{StopCode}
use Rattle.trace_reader.specs.declared.trace.StopCode.TheVariants as stops
use Rattle.trace_reader.specs.declared.trace.Width.{Width}
use Rattle.trace_reader.specs.declared.trace.Width.TheVariants.{Byte, Word, Double}
use Rattle.trace_reader.specs.declared.trace.JobArea.{JobArea}
use Rattle.trace_reader.specs.declared.trace.JobArea.TheVariants.{Memory, DataBlock as InBlock}
use Rattle.trace_reader.specs.declared.trace.Place.{Place}
use Rattle.trace_reader.specs.declared.trace.Request.{Request}
use Rattle.trace_reader.specs.declared.trace.Request.TheVariants as asks
use Rattle.trace_reader.specs.declared.trace.Answer.{Answer}
use Rattle.trace_reader.specs.declared.trace.Answer.TheVariants as answers
use Rattle.trace_reader.specs.declared.trace.Showings.{Showings}
use Rattle.trace_reader.specs.declared.trace.Showings.TheVariants as showings
use Rattle.trace_reader.specs.declared.trace.Entry.{Entry}
use Rattle.trace_reader.specs.declared.trace.Event.{Event}
use Rattle.trace_reader.specs.declared.trace.Event.TheVariants as events
use Rattle.trace_reader.specs.declared.trace.Note.{Note}
use Rattle.trace_reader.specs.declared.trace.Counter.{Counter}
use Rattle.trace_reader.specs.declared.trace.Ending.{Ending}
use Rattle.trace_reader.specs.declared.trace.Ending.TheVariants as endings
use Rattle.trace_reader.specs.declared.trace.Areas.{Areas}
use Rattle.trace_reader.specs.Blocks.{DataBlock}
use Rattle.trace_reader.specs.Fields.{hex_byte, hex_word, hex_double}
use Rattle.trace_reader.specs.Images.{image}
use Rattle.trace_reader.specs.Parts.{TailParts, TraceParts}

abbrev pub side_text : Side → List ℕ
side_text sides.A = codes "A"
side_text sides.B = codes "B"

abbrev pub stop_text : StopCode → List ℕ
stop_text stops.Cycle = codes "CYCLE"
stop_text stops.Sfc46 = codes "SFC46"
stop_text stops.NoOb121 = codes "NOOB121"
stop_text stops.NoOb122 = codes "NOOB122"
stop_text stops.NoOb85 = codes "NOOB85"
stop_text stops.Depth = codes "DEPTH"
stop_text stops.Local = codes "LOCAL"
stop_text stops.InError = codes "INERROR"

-- why a side was lost
abbrev pub loss_text : Loss → List ℕ
loss_text Failed = codes " FAILED"
loss_text Suspect = codes " SUSPECT"

abbrev pub lost_text : Side → Loss → List ℕ
lost_text side why = codes "LOST " ++ (side_text side ++ loss_text why)

abbrev pub back_text : Side → List ℕ
back_text side = codes "BACK " ++ side_text side

-- a width by its number of bytes, and by its letter
abbrev pub width_digit : Width → List ℕ
width_digit Byte = codes "1"
width_digit Word = codes "2"
width_digit Double = codes "4"

abbrev pub width_letter : Width → List ℕ
width_letter Byte = codes "B"
width_letter Word = codes "W"
width_letter Double = codes "D"

-- a value of this width, two hexadecimal digits a byte
abbrev pub value_text : Width → ℕ → List ℕ
value_text Byte value = hex_byte value
value_text Word value = hex_word value
value_text Double value = hex_double value

-- the area of a job and the letter of its width
abbrev pub area_text : JobArea → Width → List ℕ
area_text Memory width = codes "M" ++ width_letter width
area_text (InBlock number) width = codes "DB " ++ (decimal number ++ (codes " " ++ width_letter width))

-- where a job reads or writes, as `MW 10` or `DB 9 B 0`
abbrev pub place_text : Place → List ℕ
place_text place = area_text place.area place.width ++ (codes " " ++ decimal place.at)

-- what a job read, or that its address does not exist
abbrev pub reply_text : Option ℕ → List ℕ
reply_text (Some value) = codes "REPLY OK " ++ hex_double value
reply_text None = codes "REPLY BAD"

abbrev pub request_text : Request → List ℕ
request_text (asks.Outputs bytes) = codes "OUT " ++ image bytes
request_text asks.Inputs = codes "IN"
request_text asks.Cycle = codes "CYCLE"
request_text (asks.ReadPeripheral at width) = codes "RP " ++ (decimal at ++ (codes " " ++ width_digit width))
request_text (asks.WritePeripheral at width value) =
    codes "WP " ++ (decimal at ++ (codes " " ++ (width_digit width ++ (codes " " ++ value_text width value))))
request_text asks.Now = codes "NOW"
request_text asks.Tick = codes "TICK"
request_text asks.Retrigger = codes "TRIG"
request_text (asks.Reply value) = reply_text value
request_text (asks.Stop code) = codes "STOP " ++ stop_text code

abbrev pub answer_text : Answer → List ℕ
answer_text (answers.Image bytes) = codes "IMG " ++ image bytes
answer_text (answers.Value value) = codes "VAL " ++ hex_double value
answer_text (answers.Now moment) = codes "NOW " ++ decimal moment
answer_text answers.Done = codes "DONE"
answer_text answers.Go = codes "GO"
answer_text answers.Hold = codes "HOLD"
answer_text answers.NoModule = codes "NOMODULE"
answer_text (answers.Alarm ob info) = codes "ALARM " ++ (decimal ob ++ (codes " " ++ hex_double info))
answer_text (answers.ReadJob place) = codes "JOB READ " ++ place_text place
answer_text (answers.WriteJob place value) = codes "JOB WRITE " ++ (place_text place ++ (codes " " ++ value_text place.width value))
answer_text (answers.Lost side why) = lost_text side why
answer_text (answers.Back side) = back_text side
answer_text (answers.CpuStop code) = codes "CPUSTOP " ++ stop_text code

-- entry k: `k p REQUEST = ANSWER`, p being the priority
abbrev pub entry_line : ℕ → Entry → List ℕ
entry_line k entry =
    decimal k ++ (codes " " ++ (decimal entry.priority ++ (codes " " ++ (request_text entry.request ++ (codes " = " ++ (answer_text entry.answer ++ codes "\n"))))))

-- `SHOW s` for the first showing, `AGAIN s` for the second
abbrev pub shown_lines : Showings → List ℕ
shown_lines showings.None = []
shown_lines (showings.Once first) = codes "SHOW " ++ (side_text first ++ codes "\n")
shown_lines (showings.Twice first second) =
    codes "SHOW " ++ (side_text first ++ (codes "\n" ++ (codes "AGAIN " ++ (side_text second ++ codes "\n"))))

-- the entries from entry k on, each with its showings after it
abbrev pub entries_text : ℕ → List Entry → List ℕ
entries_text k [] = []
entries_text k (entry ∷ entries) = entry_line k entry ++ (shown_lines entry.shown ++ entries_text (k + 1) entries)

abbrev pub event_text : Event → List ℕ
event_text events.Start = codes "START"
event_text (events.Lost side why) = lost_text side why
event_text (events.Back side) = back_text side
event_text (events.Error number) = codes "ERROR " ++ decimal number
event_text events.Cycle = codes "CYCLE"
event_text (events.MissingOb number) = codes "OB85 " ++ decimal number
event_text (events.Discrepancy address) = codes "DISCREP " ++ decimal address
event_text (events.Stop code) = codes "STOP " ++ stop_text code

-- a diagnostic entry: its moment and its text
abbrev pub note_line : Note → List ℕ
note_line note = decimal note.moment ++ (codes " " ++ (event_text note.event ++ codes "\n"))

-- a data block: its number and its image
abbrev pub block_line : DataBlock → List ℕ
block_line block = codes "DB " ++ (decimal block.number ++ (codes " " ++ (image block.bytes ++ codes "\n")))

-- a counter: its number and its value
abbrev pub counter_line : Counter → List ℕ
counter_line counter = codes "C " ++ (decimal counter.number ++ (codes " " ++ (decimal counter.value ++ codes "\n")))

-- the images of I, Q and M
abbrev pub area_lines : Areas → List ℕ
area_lines areas =
    codes "I " ++ (image areas.inputs ++ (codes "\nQ " ++ (image areas.outputs ++ (codes "\nM " ++ (image areas.memory ++ codes "\n")))))

-- the number of the diagnostic entries
abbrev pub count_line : ℕ → List ℕ
count_line count = codes "DIAG " ++ (decimal count ++ codes "\n")

-- the diagnostic entries and what stands after them: the images, the data blocks and the counters
abbrev pub notes_and_after : TailParts → List ℕ
notes_and_after tail =
    flat_map note_line tail.notes
    ++ (area_lines tail.areas ++ (flat_map block_line tail.blocks ++ flat_map counter_line tail.counters))

-- the number of the diagnostic entries, and the tail's other lines
abbrev pub tail_lines : Option TailParts → List ℕ
tail_lines None = []
tail_lines (Some tail) =
    count_line (length tail.notes) ++ notes_and_after tail

-- how the trace ended, and the number of its entries
abbrev pub last_line : Ending → ℕ → List ℕ
last_line endings.End count = codes "END " ++ (decimal count ++ codes "\n")
last_line (endings.Stop code) count = codes "STOP " ++ (decimal count ++ (codes " " ++ (stop_text code ++ codes "\n")))
last_line endings.NoneLeft count = codes "NONE " ++ (decimal count ++ codes "\n")
last_line endings.Spent count = codes "SPENT " ++ (decimal count ++ codes "\n")

abbrev pub title_line : Mode → List ℕ
title_line Solo = codes "TRACE 1 SOLO\n"
title_line Pair = codes "TRACE 1 PAIR\n"

-- the whole text: the first line, the entries, the tail and the last line
abbrev pub text_of : TraceParts → List ℕ
text_of trace =
    title_line trace.mode
    ++ (entries_text 0 trace.entries ++ (tail_lines trace.tail ++ last_line trace.ending (length trace.entries)))
