-- The length of a data block of a subsystem is that of its tail.
use Rattle.std.proofs.Common.{◌≡◌, ◌≤◌, ℕ, List, length, Option, Some, None, ap, ◌∙◌, arith}
use Rattle.std.specs.Option.{option_map}
use Rattle.mc_machine.specs.Stands.{Running, IsRunning, OfRunning, HasSizes, block_length_of}
use Rattle.trace_text.specs.CpuTail.{tail_of}
use Rattle.trace_text.specs.Tail.{block_of}
use Rattle.trace_printer.proofs.TailBlocks.{block_same}
use Rattle.trace_printer.proofs.views.CpuViewTailView.block_length.Goals as goal

length_of_tail : (machine : Option Running) (number : ℕ) → IsRunning machine → block_length_of machine number ≡ option_map length (block_of (tail_of machine) number)
length_of_tail None number running = absurd cc
length_of_tail (Some r) number running = ap (λ (block : Option (List ℕ)). option_map length block) (block_same r.config.memory.image.data_blocks number)

few_of_tail : (machine : Option Running) → OfRunning machine (λ r. HasSizes r.config.memory) → length (tail_of machine).blocks ≤ 256
few_of_tail None sizes = absurd sizes
few_of_tail (Some r) sizes = let e = sizes.image.data_blocks in omega arith

pub returns-clause-length : goal.returns-clause-length
returns-clause-length c = c.block_length.ensures.length ∙ length_of_tail c.args.self.now.side.now.machine c.args.number c.args.self.now.running

pub returns-clause-count : goal.returns-clause-count
returns-clause-count c = few_of_tail c.args.self.now.side.now.machine c.block_length.ensures.sizes
