use Rattle.std.proofs.Common.{arith}
use Rattle.trace_printer.specs.LoadText.{data_line}
use Rattle.trace_printer.proofs.Blocks.{blocks_at, no_blocks_at}
use Rattle.trace_printer.proofs.Sections.{less_left, stops, nothing_left}
use Rattle.trace_printer.proofs.load_text.print_data_blocks.Goals as goal

pub returns-in_err-write_line : goal.returns-in_err-write_line
returns-in_err-write_line g c =
    stops _ _ _ _ _ _ _ _ _ c.from_residual.ensures.0
    (blocks_at data_line c.args.data_blocks.now c.loop-block.block-index c.block-item.result _ (omega arith) c.block-item.is c.put_data.ensures) c.loop-block.invariant c.in_err-write_line.ensures

pub loop-block-preserved : goal.loop-block-preserved
loop-block-preserved g c =
    less_left _ _ _ _ _ _ _ _
    (blocks_at data_line c.args.data_blocks.now c.loop-block.block-index c.block-item.result _ (omega arith) c.block-item.is c.put_data.ensures) c.loop-block.invariant c.in_ok-write_line.ensures

pub returns : goal.returns
returns g c = nothing_left _ _ _ _ _ (no_blocks_at data_line c.args.data_blocks.now c.loop-block.block-index (omega arith)) c.loop-block.invariant
