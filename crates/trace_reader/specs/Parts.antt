-- What a trace says, as lists.
use Rattle.std.specs.Prelude.{List, Option, Some, None}
use Rattle.trace_reader.specs.declared.trace.Mode.{Mode}
use Rattle.trace_reader.specs.declared.trace.Entry.{Entry}
use Rattle.trace_reader.specs.declared.trace.Note.{Note}
use Rattle.trace_reader.specs.declared.trace.Counter.{Counter}
use Rattle.trace_reader.specs.declared.trace.Areas.{Areas}
use Rattle.trace_reader.specs.declared.trace.Ending.{Ending}
use Rattle.trace_reader.specs.declared.trace.Tail.{Tail}
use Rattle.trace_reader.specs.declared.trace.Trace.{Trace}
use Rattle.trace_reader.specs.Blocks.{DataBlock}

pub record TailParts : Type 0 where
  pub notes : List Note
  pub areas : Areas
  pub blocks : List DataBlock
  pub counters : List Counter

pub record TraceParts : Type 0 where
  pub mode : Mode
  pub entries : List Entry
  pub tail : Option TailParts
  pub ending : Ending

abbrev pub tail_parts : Tail → TailParts
tail_parts tail = record { notes = tail.notes.items; areas = tail.areas; blocks = tail.blocks.items; counters = tail.counters.items }

abbrev pub option_parts : Option Tail → Option TailParts
option_parts None = None
option_parts (Some tail) = Some (tail_parts tail)

abbrev pub parts_of : Trace → TraceParts
parts_of trace = record { mode = trace.mode; entries = trace.entries.items; tail = option_parts trace.tail; ending = trace.ending }
