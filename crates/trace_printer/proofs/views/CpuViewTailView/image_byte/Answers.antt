-- A byte of a subsystem is that of its tail.
use Rattle.std.proofs.Common.{◌≡◌, ℕ, [], List, length, Option, Some, None, refl, ap, sym, ◌∙◌, slice_get}
use Rattle.std.specs.Prelude.{slice_index_or, unwrap_or}
use Rattle.s7_events.specs.declared.diagnostics.Area.{Area}
use Rattle.s7_events.specs.declared.diagnostics.Area.TheVariants.{I, Q, M, Db, Timers, Counters, Registers}
use Rattle.mc_machine.specs.Stands.{Running, IsRunning, OfRunning, HasSizes, byte_of}
use Rattle.trace_text.specs.CpuTail.{tail_of}
use Rattle.trace_text.specs.Tail.{IsTailArea, IsOfSize, area_bytes, block_of}
use Rattle.trace_printer.proofs.TailBlocks.{block_same, bytes_same, block_size}
use Rattle.trace_printer.proofs.views.CpuViewTailView.image_byte.Goals as goal

byte_of_tail : (machine : Option Running) (area : Area) (at : ℕ) → IsRunning machine → IsTailArea area → byte_of machine area at ≡ slice_get (area_bytes (tail_of machine) area) at
byte_of_tail None area at running shown = absurd cc
byte_of_tail (Some r) I at running shown = refl
byte_of_tail (Some r) Q at running shown = refl
byte_of_tail (Some r) M at running shown = refl
byte_of_tail (Some r) (Db number) at running shown =
    let blocks = r.config.memory.image.data_blocks in
    ap (λ (bytes : List ℕ). slice_get bytes at) (bytes_same (slice_index_or blocks number None) ∙ ap (λ (block : Option (List ℕ)). unwrap_or block []) (block_same blocks number))
byte_of_tail (Some r) Timers at running shown = absurd shown
byte_of_tail (Some r) Counters at running shown = absurd shown
byte_of_tail (Some r) Registers at running shown = absurd shown

size_of_tail : (machine : Option Running) (area : Area) (size : ℕ) → OfRunning machine (λ r. HasSizes r.config.memory) → IsOfSize (tail_of machine) area size → length (area_bytes (tail_of machine) area) ≡ size
size_of_tail None area size sizes shown = absurd sizes
size_of_tail (Some r) I size sizes shown = sizes.image.inputs ∙ sym shown
size_of_tail (Some r) Q size sizes shown = sizes.image.outputs ∙ sym shown
size_of_tail (Some r) M size sizes shown = sizes.image.bit_memory ∙ sym shown
size_of_tail (Some r) (Db number) size sizes shown = block_size (block_of (tail_of (Some r)) number) size shown
size_of_tail (Some r) Timers size sizes shown = absurd shown
size_of_tail (Some r) Counters size sizes shown = absurd shown
size_of_tail (Some r) Registers size sizes shown = absurd shown

pub returns-clause-byte : goal.returns-clause-byte
returns-clause-byte c shown = c.image_byte.ensures.byte ∙ byte_of_tail c.args.self.now.side.now.machine c.args.area c.args.at_byte c.args.self.now.running shown

pub returns-clause-size : goal.returns-clause-size
returns-clause-size c size shown = size_of_tail c.args.self.now.side.now.machine c.args.area size c.image_byte.ensures.sizes shown
