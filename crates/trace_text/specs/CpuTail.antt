-- The tail of a CPU.
use Rattle.std.specs.Prelude.{ℕ, List, map, Option, Some, None}
use Rattle.s7_events.specs.declared.diagnostics.DiagCode.{DiagCode}
use Rattle.statement_effects.specs.State.{Memory}
use Rattle.diag_buffer.specs.declared.note.Note.{Note}
use Rattle.mc_machine.specs.Meaning.{State}
use Rattle.mc_machine.specs.Stands.{Running, newest}
use Rattle.trace_text.specs.Tail.{Tail, no_tail}

abbrev pub noted : List Note → List (ℕ × DiagCode)
noted notes = map (λ note. (note.moment, note.code)) notes

-- of the areas and the diagnostic entries that are kept
abbrev pub tail_in : Memory → List Note → Tail
tail_in memory notes = record {
  notes = noted notes;
  inputs = memory.image.inputs;
  outputs = memory.image.outputs;
  flags = memory.image.bit_memory;
  blocks = memory.image.data_blocks;
  counters = map (λ counter. counter.value) memory.counters;
}

-- of the state of a CPU: its areas and its newest diagnostic entries
abbrev pub tail_of_state : State → Tail
tail_of_state state = tail_in state.memory (newest state.notes)

-- of a machine
abbrev pub tail_of : Option Running → Tail
tail_of None = no_tail
tail_of (Some running) = tail_in running.config.memory running.config.diag
