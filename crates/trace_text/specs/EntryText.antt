-- How an entry of the record is written: its number, its request and its answer.
use Rattle.std.specs.Prelude.{ℕ, ◌==◌, Option, Some, None, List, ◌++◌, if◌then◌else◌, codes}
use Rattle.std.specs.Fmt.{decimal}
use Rattle.s7_events.specs.declared.entry.Side.{Side}
use Rattle.s7_events.specs.declared.entry.Side.TheVariants.{A, B}
use Rattle.s7_events.specs.declared.entry.Loss.{Loss}
use Rattle.s7_events.specs.declared.entry.Loss.TheVariants.{Failed, Suspect}
use Rattle.s7_events.specs.declared.entry.StopCode.{StopCode}
use Rattle.s7_events.specs.declared.entry.StopCode.TheVariants as codes_of
use Rattle.s7_events.specs.declared.entry.Job as jobs
use Rattle.s7_events.specs.declared.entry.JobArea.{JobArea}
use Rattle.s7_events.specs.declared.entry.JobArea.TheVariants.{M, Db}
use Rattle.s7_events.specs.declared.entry.Ask.{Ask}
use Rattle.s7_events.specs.declared.entry.Ask.TheVariants as asks
use Rattle.s7_events.specs.declared.entry.Answer.{Answer}
use Rattle.s7_events.specs.declared.entry.Answer.TheVariants as answers
use Rattle.s7_events.specs.declared.entry.Entry.{Entry}
use Rattle.trace_text.specs.Image.{hex, image}

abbrev pub side_word : Side → List ℕ
side_word A = codes "A"
side_word B = codes "B"

abbrev pub stop_word : StopCode → List ℕ
stop_word codes_of.Cycle = codes "CYCLE"
stop_word codes_of.Sfc46 = codes "SFC46"
stop_word codes_of.NoOb121 = codes "NOOB121"
stop_word codes_of.NoOb122 = codes "NOOB122"
stop_word codes_of.NoOb85 = codes "NOOB85"
stop_word codes_of.Depth = codes "DEPTH"
stop_word codes_of.Local = codes "LOCAL"
stop_word codes_of.InError = codes "INERROR"

-- a side that was lost, and why
abbrev pub lost_text : Side → Loss → List ℕ
lost_text side Failed = codes "LOST " ++ side_word side ++ codes " FAILED"
lost_text side Suspect = codes "LOST " ++ side_word side ++ codes " SUSPECT"

abbrev pub back_text : Side → List ℕ
back_text side = codes "BACK " ++ side_word side

-- the letter of a width of 1, 2 or 4 bytes
abbrev pub width_letter : ℕ → List ℕ
width_letter width = if width == 1 then codes "B" else if width == 2 then codes "W" else codes "D"

-- where a job reads or writes, as `MW 10` or `DB 9 B 0`
abbrev pub place_text : JobArea → ℕ → ℕ → List ℕ
place_text M width at = codes "M" ++ width_letter width ++ codes " " ++ decimal at
place_text (Db number) width at =
    codes "DB " ++ decimal number ++ codes " " ++ width_letter width ++ codes " " ++ decimal at

-- a job as in the script: what it writes has two hexadecimal digits a byte
abbrev pub job_text : jobs.Job → List ℕ
job_text job =
    if job.write
    then codes "JOB WRITE " ++ place_text job.area job.width job.at_byte ++ codes " " ++ hex job.width job.value
    else codes "JOB READ " ++ place_text job.area job.width job.at_byte

-- what a job read, or that its address does not exist
abbrev pub reply_text : Option ℕ → List ℕ
reply_text (Some value) = codes "REPLY OK " ++ hex 4 value
reply_text None = codes "REPLY BAD"

abbrev pub ask_text : Ask → List ℕ
ask_text (asks.Outputs bytes) = codes "OUT " ++ image bytes
ask_text asks.Inputs = codes "IN"
ask_text asks.Cycle = codes "CYCLE"
ask_text (asks.ReadP addr width) = codes "RP " ++ decimal addr ++ codes " " ++ decimal width
ask_text (asks.WriteP addr width value) =
    codes "WP " ++ decimal addr ++ codes " " ++ decimal width ++ codes " " ++ hex width value
ask_text asks.Now = codes "NOW"
ask_text asks.Tick = codes "TICK"
ask_text asks.Retrigger = codes "TRIG"
ask_text (asks.Reply value) = reply_text value
ask_text (asks.Stop code) = codes "STOP " ++ stop_word code

abbrev pub answer_text : Answer → List ℕ
answer_text (answers.Image bytes) = codes "IMG " ++ image bytes
answer_text (answers.Value value) = codes "VAL " ++ hex 4 value
answer_text (answers.Now moment) = codes "NOW " ++ decimal moment
answer_text answers.Done = codes "DONE"
answer_text answers.Go = codes "GO"
answer_text answers.Hold = codes "HOLD"
answer_text (answers.Alarm ob info) = codes "ALARM " ++ decimal ob ++ codes " " ++ hex 4 info
answer_text (answers.Job job) = job_text job
answer_text (answers.Lost side why) = lost_text side why
answer_text (answers.Back side) = back_text side
answer_text answers.NoModule = codes "NOMODULE"
answer_text (answers.CpuStop code) = codes "CPUSTOP " ++ stop_word code

-- entry k: `k p REQUEST = ANSWER`, p being the priority, and a line feed
abbrev pub entry_line : ℕ → Entry → List ℕ
entry_line k entry =
    decimal k ++ codes " " ++ decimal entry.request.prio ++ codes " " ++ ask_text entry.request.ask
    ++ codes " = " ++ answer_text entry.answer ++ codes "\n"
