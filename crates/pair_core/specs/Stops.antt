-- Which entry stops the CPU.
use Rattle.std.specs.Prelude.{List, [], ◌∷◌, Option, Some, None}
use Rattle.s7_events.specs.declared.entry.StopCode.{StopCode}
use Rattle.s7_events.specs.declared.entry.Ask.{Ask}
use Rattle.s7_events.specs.declared.entry.Ask.TheVariants as asks
use Rattle.s7_events.specs.declared.entry.Answer.{Answer}
use Rattle.s7_events.specs.declared.entry.Answer.TheVariants as answers
use Rattle.s7_events.specs.declared.entry.Entry.{Entry}

-- the code with which an entry stops the CPU
abbrev pub stop_by : Ask → Answer → Option StopCode
stop_by ask (answers.CpuStop code) = Some code
stop_by (asks.Stop code) answers.Done = Some code
stop_by ask answer = None

abbrev pub stop_from : Option StopCode → List Entry → Option StopCode
stop_from before [] = before
stop_from before (e ∷ es) = stop_from (stop_by e.request.ask e.answer) es

-- the code with which the last entry stops the CPU
abbrev pub stop_of : List Entry → Option StopCode
stop_of es = stop_from None es
