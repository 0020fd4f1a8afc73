-- The grammar of a line. A rule takes words from the front, and gives what they say and the other words; None where they
-- have no such form, or where a number is outside its range.
use Rattle.std.specs.Prelude.{ℕ, ◌+◌, ◌*◌, ◌==◌, ◌&&◌, ◌||◌, Bool, true, false, List, [], ◌∷◌, Option, Some, None, unwrap_or, min, nat_le, if◌then◌else◌, codes}
use Rattle.std.specs.Option.{option_map}
use Rattle.std.specs.Str.{bytes_eq}
use Rattle.s7_events.specs.declared.entry.Side.{Side}
use Rattle.s7_events.specs.declared.entry.Side.TheVariants.{A, B}
use Rattle.s7_events.specs.declared.entry.Job.{Job}
use Rattle.s7_events.specs.declared.entry.JobArea.{JobArea}
use Rattle.s7_events.specs.declared.entry.JobArea.TheVariants.{M, Db}
use Rattle.plant_script.specs.declared.plan.Module.{Module}
use Rattle.plant_script.specs.declared.plan.ModuleKind.{ModuleKind}
use Rattle.plant_script.specs.declared.plan.ModuleKind.TheVariants.{Switched, OneSided, Redundant}
use Rattle.plant_script.specs.declared.plan.What.{What}
use Rattle.plant_script.specs.declared.plan.What.TheVariants.{Input, Alarm, Job as IsJob, Fail, Return, Suspect}
use Rattle.plant_script.specs.declared.lines.Reach.{Reach}
use Rattle.plant_script.specs.declared.lines.Reach.TheVariants as reaches
use Rattle.plant_script.specs.declared.lines.Verb.{Verb}
use Rattle.plant_script.specs.declared.lines.Verb.TheVariants as verbs
use Rattle.plant_script.specs.declared.lines.Head.{Head}
use Rattle.plant_script.specs.declared.lines.Head.TheVariants as heads
use Rattle.plant_script.specs.declared.lines.Line.{Line}
use Rattle.plant_script.specs.declared.lines.Line.TheVariants.{Skipped, Module as IsModule, At, End}
use Rattle.s7_events.specs.Optional.{◌>>=◌}
use Rattle.plant_script.specs.Words.{uncons, is_empty, begins_with}
use Rattle.plant_script.specs.Numbers.{value_of, is_number, number_within, hex_of}

-- ---- single words

-- a number that is at most this
unfoldable pub number_at : ℕ → List (List ℕ) → Option (ℕ × List (List ℕ))
number_at most words = do
  first ← uncons words
  number ← number_within most first.0
  Some (number, first.1)

-- so many hexadecimal digits
unfoldable pub hex_at : ℕ → List (List ℕ) → Option (ℕ × List (List ℕ))
hex_at count words = do
  first ← uncons words
  value ← hex_of count first.0
  Some (value, first.1)

-- the side of a letter
abbrev pub side_of : List ℕ → Option Side
side_of word = if bytes_eq word (codes "A") then Some A else if bytes_eq word (codes "B") then Some B else None

unfoldable pub side_at : List (List ℕ) → Option (Side × List (List ℕ))
side_at words = do
  first ← uncons words
  side ← side_of first.0
  Some (side, first.1)

-- a side, where one stands there
unfoldable pub maybe_side_at : List (List ℕ) → Option Side × List (List ℕ)
maybe_side_at words = unwrap_or (option_map (λ s. (Some s.0, s.1)) (side_at words)) (None, words)

-- ---- MODULE

-- `IN` or `OUT`
abbrev pub direction_of : List ℕ → Option Bool
direction_of word = if bytes_eq word (codes "IN") then Some true else if bytes_eq word (codes "OUT") then Some false else None

-- `s`
unfoldable pub one_sided_at : List (List ℕ) → Option (ModuleKind × List (List ℕ))
one_sided_at words = do
  side ← side_at words
  Some (OneSided side.0, side.1)

-- `d`, 1 to 1,000
unfoldable pub redundant_at : List (List ℕ) → Option (ModuleKind × List (List ℕ))
redundant_at words = do
  time ← number_at 1000 words
  if nat_le 1 time.0 then Some (Redundant time.0, time.1) else None

abbrev pub reach_of : List ℕ → Option Reach
reach_of word =
    if bytes_eq word (codes "SWITCHED") then Some reaches.Switched
    else if bytes_eq word (codes "ONESIDED") then Some reaches.OneSided
    else if bytes_eq word (codes "REDUNDANT") then Some reaches.Redundant
    else None

abbrev pub kind_by : Reach → List (List ℕ) → Option (ModuleKind × List (List ℕ))
kind_by reaches.Switched words = Some (Switched, words)
kind_by reaches.OneSided words = one_sided_at words
kind_by reaches.Redundant words = redundant_at words

-- `SWITCHED`, `ONESIDED s` or `REDUNDANT d`
unfoldable pub kind_at : List (List ℕ) → Option (ModuleKind × List (List ℕ))
kind_at words = do
  first ← uncons words
  reach ← reach_of first.0
  kind_by reach first.1

-- n is 1 to 64, and the module ends at byte 1,024 at most
abbrev pub has_space : ℕ → ℕ → Bool
has_space start size = nat_le 1 size && nat_le (start + size) 1024

abbrev pub module_of : ℕ → Bool → ℕ → ℕ → ModuleKind → Module
module_of number input start size kind = record { line = number; input = input; at_byte = start; len = size; kind = kind }

-- `IN a n kind` or `OUT a n kind`
unfoldable pub module_at : ℕ → List (List ℕ) → Option (Line × List (List ℕ))
module_at number words = do
  first ← uncons words
  input ← direction_of first.0
  start ← number_at 1023 first.1
  size ← number_at 64 start.1
  kind ← kind_at size.1
  if has_space start.0 size.0 then Some (IsModule (module_of number input start.0 size.0 kind.0), kind.1) else None

-- ---- AT

-- a number of any size; those from 65,535 on are one, which no module has
unfoldable pub byte_at : List (List ℕ) → Option (ℕ × List (List ℕ))
byte_at words = do
  first ← uncons words
  if is_number first.0 then Some (min (value_of first.0) 65535, first.1) else None

-- `a hh` or `a s hh`
unfoldable pub input_at : List (List ℕ) → Option (What × List (List ℕ))
input_at words = do
  place ← byte_at words
  value ← hex_at 2 (maybe_side_at place.1).1
  Some (Input place.0 (maybe_side_at place.1).0 value.0, value.1)

-- the OBs of alarms: 40 to 47, and 82
abbrev pub is_alarm_ob : ℕ → Bool
is_alarm_ob ob = (nat_le 40 ob && nat_le ob 47) || ob == 82

-- `ob x`
unfoldable pub alarm_at : List (List ℕ) → Option (What × List (List ℕ))
alarm_at words = do
  ob ← number_at 82 words
  info ← hex_at 8 ob.1
  if is_alarm_ob ob.0 then Some (Alarm ob.0 info.0, info.1) else None

-- a job that reads so many bytes there
abbrev pub read_job : JobArea → ℕ → ℕ → Job
read_job area place width = record { write = false; area = area; at_byte = place; width = width; value = 0 }

-- `n` behind MB, MW or MD
unfoldable pub memory_at : ℕ → List (List ℕ) → Option (Job × List (List ℕ))
memory_at width words = do
  place ← number_at 65535 words
  Some (read_job M place.0 width, place.1)

-- the number of bytes that a letter means
abbrev pub width_of : List ℕ → Option ℕ
width_of word =
    if bytes_eq word (codes "B") then Some 1
    else if bytes_eq word (codes "W") then Some 2
    else if bytes_eq word (codes "D") then Some 4
    else None

-- `m B n`, `m W n` or `m D n` behind DB
unfoldable pub data_at : List (List ℕ) → Option (Job × List (List ℕ))
data_at words = do
  block ← number_at 65535 words
  letter ← uncons block.1
  width ← width_of letter.0
  place ← number_at 65535 letter.1
  Some (read_job (Db block.0) place.0 width, place.1)

abbrev pub target_by : List ℕ → List (List ℕ) → Option (Job × List (List ℕ))
target_by word words =
    if bytes_eq word (codes "MB") then memory_at 1 words
    else if bytes_eq word (codes "MW") then memory_at 2 words
    else if bytes_eq word (codes "MD") then memory_at 4 words
    else if bytes_eq word (codes "DB") then data_at words
    else None

-- the target of a job, as a job that reads it
unfoldable pub target_at : List (List ℕ) → Option (Job × List (List ℕ))
target_at words = do
  first ← uncons words
  target_by first.0 first.1

-- `t`
unfoldable pub read_at : List (List ℕ) → Option (What × List (List ℕ))
read_at words = do
  target ← target_at words
  Some (IsJob target.0, target.1)

-- `t x`, with two digits for each byte of the target
unfoldable pub write_at : List (List ℕ) → Option (What × List (List ℕ))
write_at words = do
  target ← target_at words
  value ← hex_at (2 * target.0.width) target.1
  Some (IsJob (record target.0 { write = true; value = value.0 }), value.1)

abbrev pub job_by : List ℕ → List (List ℕ) → Option (What × List (List ℕ))
job_by word words =
    if bytes_eq word (codes "READ") then read_at words
    else if bytes_eq word (codes "WRITE") then write_at words
    else None

-- `READ t` or `WRITE t x`
unfoldable pub job_at : List (List ℕ) → Option (What × List (List ℕ))
job_at words = do
  first ← uncons words
  job_by first.0 first.1

-- the word LATE, where it stands there
abbrev pub late_at : List (List ℕ) → Bool × List (List ℕ)
late_at [] = (false, [])
late_at (w ∷ ws) = if bytes_eq w (codes "LATE") then (true, ws) else (false, w ∷ ws)

-- `s` or `s LATE`
unfoldable pub fail_at : List (List ℕ) → Option (What × List (List ℕ))
fail_at words = do
  side ← side_at words
  Some (Fail side.0 (late_at side.1).0, (late_at side.1).1)

-- `s`
unfoldable pub return_at : List (List ℕ) → Option (What × List (List ℕ))
return_at words = do
  side ← side_at words
  Some (Return side.0 false, side.1)

-- whether a self-test is passed
abbrev pub pass_of : List ℕ → Option Bool
pass_of word = if bytes_eq word (codes "PASS") then Some true else if bytes_eq word (codes "FAIL") then Some false else None

-- `s PASS` or `s FAIL`
unfoldable pub suspect_at : List (List ℕ) → Option (What × List (List ℕ))
suspect_at words = do
  side ← side_at words
  outcome ← uncons side.1
  pass ← pass_of outcome.0
  Some (Suspect side.0 pass, outcome.1)

abbrev pub verb_of : List ℕ → Option Verb
verb_of word =
    if bytes_eq word (codes "INPUT") then Some verbs.Input
    else if bytes_eq word (codes "ALARM") then Some verbs.Alarm
    else if bytes_eq word (codes "JOB") then Some verbs.Job
    else if bytes_eq word (codes "FAIL") then Some verbs.Fail
    else if bytes_eq word (codes "RETURN") then Some verbs.Return
    else if bytes_eq word (codes "SUSPECT") then Some verbs.Suspect
    else None

abbrev pub what_by : Verb → List (List ℕ) → Option (What × List (List ℕ))
what_by verbs.Input words = input_at words
what_by verbs.Alarm words = alarm_at words
what_by verbs.Job words = job_at words
what_by verbs.Fail words = fail_at words
what_by verbs.Return words = return_at words
what_by verbs.Suspect words = suspect_at words

-- `k` and what happens at this moment; k may be any word here
unfoldable pub at_at : List (List ℕ) → Option (Line × List (List ℕ))
at_at words = do
  time ← uncons words
  first ← uncons time.1
  verb ← verb_of first.0
  what ← what_by verb first.1
  Some (At what.0, what.1)

-- `E`; it may be any word here
unfoldable pub end_at : List (List ℕ) → Option (Line × List (List ℕ))
end_at words = do
  time ← uncons words
  Some (End, time.1)

-- ---- the whole line

abbrev pub head_of : List ℕ → Option Head
head_of word =
    if bytes_eq word (codes "MODULE") then Some heads.Module
    else if bytes_eq word (codes "AT") then Some heads.At
    else if bytes_eq word (codes "END") then Some heads.End
    else None

abbrev pub line_by : Head → ℕ → List (List ℕ) → Option (Line × List (List ℕ))
line_by heads.Module number words = module_at number words
line_by heads.At number words = at_at words
line_by heads.End number words = end_at words

-- a line behind its first word, where then no word is left
unfoldable pub statement_of : ℕ → List ℕ → List (List ℕ) → Option Line
statement_of number word words = do
  head ← head_of word
  line ← line_by head number words
  if is_empty line.1 then Some line.0 else None

-- The line of this number with these words. One without words, or whose first word begins with `#`, is skipped.
unfoldable pub line_of : ℕ → List (List ℕ) → Option Line
line_of number [] = Some Skipped
line_of number (w ∷ ws) = if begins_with 35 w then Some Skipped else statement_of number w ws
