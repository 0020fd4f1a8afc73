-- The lines that stand at the front of a text, each read back as what it says, with the text after it.
use Rattle.std.specs.Prelude.{ℕ, ◌==◌, Bool, true, false, List, Option, Some, None, if◌then◌else◌, codes}
use Rattle.trace_reader.specs.declared.trace.Mode.{Mode}
use Rattle.trace_reader.specs.declared.trace.Mode.TheVariants.{Solo, Pair}
use Rattle.trace_reader.specs.declared.trace.Side.{Side}
use Rattle.trace_reader.specs.declared.trace.Request.{Request}
use Rattle.trace_reader.specs.declared.trace.Request.TheVariants as asks
use Rattle.trace_reader.specs.declared.trace.Answer.{Answer}
use Rattle.trace_reader.specs.declared.trace.Answer.TheVariants as answers
use Rattle.trace_reader.specs.declared.trace.Showings.{Showings}
use Rattle.trace_reader.specs.declared.trace.Showings.TheVariants as showings
use Rattle.trace_reader.specs.declared.trace.Entry.{Entry}
use Rattle.trace_reader.specs.declared.trace.Note.{Note}
use Rattle.trace_reader.specs.declared.trace.Counter.{Counter}
use Rattle.trace_reader.specs.declared.trace.Areas.{Areas}
use Rattle.trace_reader.specs.declared.trace.Ending.{Ending}
use Rattle.trace_reader.specs.declared.trace.Ending.TheVariants as endings
use Rattle.trace_reader.specs.Blocks.{DataBlock}
use Rattle.trace_reader.specs.Fields.{◌>>=◌, after, number_at}
use Rattle.trace_reader.specs.Images.{image_at}
use Rattle.trace_reader.specs.Words.{past, side_at, stop_at}
use Rattle.trace_reader.specs.Requests.{request_at, answer_at, event_at}

unfoldable pub title_at : List ℕ → Option (Mode × List ℕ)
title_at text =
    past (codes "TRACE 1 SOLO\n") text (λ rest. Some (Solo, rest))
    (past (codes "TRACE 1 PAIR\n") text (λ rest. Some (Pair, rest)) None)

-- an output of the image or of the periphery that is done
abbrev pub is_output : Request → Answer → Bool
is_output (asks.Outputs bytes) answers.Done = true
is_output (asks.WritePeripheral at width value) answers.Done = true
is_output _ _ = false

-- a line of this word and a side
unfoldable pub side_line_at : List ℕ → List ℕ → Option (Side × List ℕ)
side_line_at word text = do
  begin ← after word text
  side ← side_at begin
  rest ← after (codes "\n") side.1
  Some (side.0, rest)

abbrev pub second_shown : Side × List ℕ → Option (Side × List ℕ) → Showings × List ℕ
second_shown first None = (showings.Once first.0, first.1)
second_shown first (Some second) = (showings.Twice first.0 second.0, second.1)

abbrev pub first_shown : List ℕ → Option (Side × List ℕ) → Showings × List ℕ
first_shown text None = (showings.None, text)
first_shown text (Some first) = second_shown first (side_line_at (codes "AGAIN ") first.1)

-- the showings of an output
unfoldable pub shown_at : List ℕ → Showings × List ℕ
shown_at text = first_shown text (side_line_at (codes "SHOW ") text)

-- the showings after an entry: of an output alone
unfoldable pub showings_at : Request → Answer → List ℕ → Showings × List ℕ
showings_at request answer text = if is_output request answer then shown_at text else (showings.None, text)

-- the line of entry k
unfoldable pub asked_at : ℕ → List ℕ → Option (Entry × List ℕ)
asked_at k text = do
  number ← number_at 4294967294 text
  rest ← if number.0 == k then after (codes " ") number.1 else None
  priority ← number_at 255 rest
  ask ← after (codes " ") priority.1
  request ← request_at ask
  equals ← after (codes " = ") request.1
  answer ← answer_at equals
  next ← after (codes "\n") answer.1
  Some (record { priority = priority.0; request = request.0; answer = answer.0; shown = showings.None }, next)

abbrev pub with_showings : Entry → Showings × List ℕ → Entry × List ℕ
with_showings asked shown = (record { priority = asked.priority; request = asked.request; answer = asked.answer; shown = shown.0 }, shown.1)

-- entry k with its showings
unfoldable pub entry_at : ℕ → List ℕ → Option (Entry × List ℕ)
entry_at k text = do
  asked ← asked_at k text
  Some (with_showings asked.0 (showings_at asked.0.request asked.0.answer asked.1))

-- the number of the diagnostic entries
unfoldable pub count_at : List ℕ → Option (ℕ × List ℕ)
count_at text = do
  begin ← after (codes "DIAG ") text
  count ← number_at 4294967295 begin
  rest ← after (codes "\n") count.1
  Some (count.0, rest)

unfoldable pub note_at : List ℕ → Option (Note × List ℕ)
note_at text = do
  moment ← number_at 4294967295 text
  begin ← after (codes " ") moment.1
  event ← event_at begin
  rest ← after (codes "\n") event.1
  Some (record { moment = moment.0; event = event.0 }, rest)

-- the image of this number of bytes after this name
unfoldable pub image_line_at : List ℕ → ℕ → List ℕ → Option (List ℕ × List ℕ)
image_line_at name count text = do
  begin ← after name text
  image ← image_at count begin
  rest ← after (codes "\n") image.1
  Some (image.0, rest)

-- the images of I, Q and M
unfoldable pub areas_at : List ℕ → Option (Areas × List ℕ)
areas_at text = do
  inputs ← image_line_at (codes "I ") 64 text
  outputs ← image_line_at (codes "Q ") 64 inputs.1
  memory ← image_line_at (codes "M ") 1024 outputs.1
  Some (record { inputs = inputs.0; outputs = outputs.0; memory = memory.0 }, memory.1)

unfoldable pub block_at : List ℕ → Option (DataBlock × List ℕ)
block_at text = do
  begin ← after (codes "DB ") text
  number ← number_at 255 begin
  cells ← after (codes " ") number.1
  image ← image_at 65536 cells
  rest ← after (codes "\n") image.1
  Some (record { number = number.0; bytes = image.0 }, rest)

unfoldable pub counter_at : List ℕ → Option (Counter × List ℕ)
counter_at text = do
  begin ← after (codes "C ") text
  number ← number_at 255 begin
  rest ← after (codes " ") number.1
  value ← number_at 65535 rest
  next ← after (codes "\n") value.1
  Some (record { number = number.0; value = value.0 }, next)

-- the text after the number of the entries
unfoldable pub entries_at : ℕ → List ℕ → Option (List ℕ)
entries_at count text = do
  number ← number_at 4294967295 text
  if number.0 == count then Some number.1 else None

-- the end of a line that is over after the number of the entries
abbrev pub plain_end : Ending → ℕ → List ℕ → Option (Ending × List ℕ)
plain_end ending count text = do
  rest ← entries_at count text
  next ← after (codes "\n") rest
  Some (ending, next)

abbrev pub stop_end : ℕ → List ℕ → Option (Ending × List ℕ)
stop_end count text = do
  rest ← entries_at count text
  begin ← after (codes " ") rest
  code ← stop_at begin
  next ← after (codes "\n") code.1
  Some (endings.Stop code.0, next)

-- the last line of a trace that has a tail
unfoldable pub last_at : ℕ → List ℕ → Option (Ending × List ℕ)
last_at count text =
    past (codes "END ") text (plain_end endings.End count) (past (codes "STOP ") text (stop_end count) None)

-- the last line of a trace that has none
unfoldable pub cut_at : ℕ → List ℕ → Option (Ending × List ℕ)
cut_at count text =
    past (codes "NONE ") text (plain_end endings.NoneLeft count) (past (codes "SPENT ") text (plain_end endings.Spent count) None)

-- the last line of a trace of this number of entries
abbrev pub ending_at : Bool → ℕ → List ℕ → Option (Ending × List ℕ)
ending_at has_tail count text = if has_tail then last_at count text else cut_at count text
