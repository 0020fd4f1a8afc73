-- The requests, the answers and the diagnostic entries that stand at the front of a text, with the text after them.
use Rattle.std.specs.Prelude.{ℕ, List, Option, Some, None, codes}
use Rattle.std.specs.Option.{option_map}
use Rattle.trace_reader.specs.declared.trace.Side.{Side}
use Rattle.trace_reader.specs.declared.trace.Request.{Request}
use Rattle.trace_reader.specs.declared.trace.Request.TheVariants as asks
use Rattle.trace_reader.specs.declared.trace.Answer.{Answer}
use Rattle.trace_reader.specs.declared.trace.Answer.TheVariants as answers
use Rattle.trace_reader.specs.declared.trace.Event.{Event}
use Rattle.trace_reader.specs.declared.trace.Event.TheVariants as events
use Rattle.trace_reader.specs.Fields.{◌>>=◌, ◌or_else◌, after, double_at, number_at}
use Rattle.trace_reader.specs.Images.{image_at}
use Rattle.trace_reader.specs.Words.{past, side_at, stop_at, lost_at, width_digit_at, value_at, place_at}

unfoldable pub plain_request_at : List ℕ → Option (Request × List ℕ)
plain_request_at text =
    past (codes "IN") text (λ rest. Some (asks.Inputs, rest))
    (past (codes "CYCLE") text (λ rest. Some (asks.Cycle, rest))
    (past (codes "NOW") text (λ rest. Some (asks.Now, rest))
    (past (codes "TICK") text (λ rest. Some (asks.Tick, rest))
    (past (codes "TRIG") text (λ rest. Some (asks.Retrigger, rest)) None))))

-- what stands after `RP `
abbrev pub read_access : List ℕ → Option (Request × List ℕ)
read_access text = do
  at ← number_at 65535 text
  rest ← after (codes " ") at.1
  width ← width_digit_at rest
  Some (asks.ReadPeripheral at.0 width.0, width.1)

-- what stands after `WP `
abbrev pub write_access : List ℕ → Option (Request × List ℕ)
write_access text = do
  at ← number_at 65535 text
  rest ← after (codes " ") at.1
  width ← width_digit_at rest
  begin ← after (codes " ") width.1
  value ← value_at width.0 begin
  Some (asks.WritePeripheral at.0 width.0 value.0, value.1)

unfoldable pub access_at : List ℕ → Option (Request × List ℕ)
access_at text = past (codes "RP ") text read_access (past (codes "WP ") text write_access None)

unfoldable pub reply_at : List ℕ → Option (Request × List ℕ)
reply_at text =
    past (codes "REPLY OK ") text (λ rest. option_map (λ value. (asks.Reply (Some value.0), value.1)) (double_at rest))
    (past (codes "REPLY BAD") text (λ rest. Some (asks.Reply None, rest)) None)

unfoldable pub request_at : List ℕ → Option (Request × List ℕ)
request_at text =
    past (codes "OUT ") text (λ rest. option_map (λ image. (asks.Outputs image.0, image.1)) (image_at 64 rest))
    (past (codes "STOP ") text (λ rest. option_map (λ code. (asks.Stop code.0, code.1)) (stop_at rest))
    (plain_request_at text or_else access_at text or_else reply_at text))

unfoldable pub plain_answer_at : List ℕ → Option (Answer × List ℕ)
plain_answer_at text =
    past (codes "DONE") text (λ rest. Some (answers.Done, rest))
    (past (codes "GO") text (λ rest. Some (answers.Go, rest))
    (past (codes "HOLD") text (λ rest. Some (answers.Hold, rest))
    (past (codes "NOMODULE") text (λ rest. Some (answers.NoModule, rest)) None)))

unfoldable pub value_answer_at : List ℕ → Option (Answer × List ℕ)
value_answer_at text =
    past (codes "IMG ") text (λ rest. option_map (λ image. (answers.Image image.0, image.1)) (image_at 64 rest))
    (past (codes "VAL ") text (λ rest. option_map (λ value. (answers.Value value.0, value.1)) (double_at rest))
    (past (codes "NOW ") text (λ rest. option_map (λ moment. (answers.Now moment.0, moment.1)) (number_at 4294967295 rest)) None))

-- what stands after `JOB WRITE `
abbrev pub write_job : List ℕ → Option (Answer × List ℕ)
write_job text = do
  place ← place_at text
  begin ← after (codes " ") place.1
  value ← value_at place.0.width begin
  Some (answers.WriteJob place.0 value.0, value.1)

unfoldable pub job_at : List ℕ → Option (Answer × List ℕ)
job_at text =
    past (codes "JOB READ ") text (λ rest. option_map (λ place. (answers.ReadJob place.0, place.1)) (place_at rest))
    (past (codes "JOB WRITE ") text write_job None)

unfoldable pub alarm_at : List ℕ → Option (Answer × List ℕ)
alarm_at text = do
  begin ← after (codes "ALARM ") text
  ob ← number_at 255 begin
  rest ← after (codes " ") ob.1
  info ← double_at rest
  Some (answers.Alarm ob.0 info.0, info.1)

unfoldable pub back_at : List ℕ → Option (Side × List ℕ)
back_at text = after (codes "BACK ") text >>= side_at

unfoldable pub state_answer_at : List ℕ → Option (Answer × List ℕ)
state_answer_at text =
    option_map (λ lost. (answers.Lost lost.0.0 lost.0.1, lost.1)) (lost_at text)
    or_else option_map (λ back. (answers.Back back.0, back.1)) (back_at text)
    or_else past (codes "CPUSTOP ") text (λ rest. option_map (λ code. (answers.CpuStop code.0, code.1)) (stop_at rest)) None

unfoldable pub answer_at : List ℕ → Option (Answer × List ℕ)
answer_at text =
    plain_answer_at text or_else value_answer_at text or_else job_at text or_else alarm_at text or_else state_answer_at text

unfoldable pub numbered_event_at : List ℕ → Option (Event × List ℕ)
numbered_event_at text =
    past (codes "ERROR ") text (λ rest. option_map (λ number. (events.Error number.0, number.1)) (number_at 255 rest))
    (past (codes "OB85 ") text (λ rest. option_map (λ number. (events.MissingOb number.0, number.1)) (number_at 255 rest))
    (past (codes "DISCREP ") text (λ rest. option_map (λ address. (events.Discrepancy address.0, address.1)) (number_at 65535 rest)) None))

unfoldable pub event_at : List ℕ → Option (Event × List ℕ)
event_at text =
    past (codes "START") text (λ rest. Some (events.Start, rest))
    (past (codes "CYCLE") text (λ rest. Some (events.Cycle, rest))
    (option_map (λ lost. (events.Lost lost.0.0 lost.0.1, lost.1)) (lost_at text)
    or_else option_map (λ back. (events.Back back.0, back.1)) (back_at text)
    or_else past (codes "STOP ") text (λ rest. option_map (λ code. (events.Stop code.0, code.1)) (stop_at rest)) (numbered_event_at text)))
