use Rattle.std.proofs.Common.{arith}
use Rattle.trace_printer.specs.LoadText.{code_line}
use Rattle.trace_printer.proofs.Blocks.{blocks_at, no_blocks_at}
use Rattle.trace_printer.proofs.Sections.{less_left, stops, nothing_left}
use Rattle.trace_printer.proofs.load_text.print_codes.Goals as goal

pub returns-in_err-write_line : goal.returns-in_err-write_line
returns-in_err-write_line g c =
    stops _ _ _ _ _ _ _ _ _ c.from_residual.ensures.0
    (blocks_at code_line c.args.codes.now c.loop-code.code-index c.code-item.result _ (omega arith) c.code-item.is c.put_code.ensures) c.loop-code.invariant c.in_err-write_line.ensures

pub loop-code-preserved : goal.loop-code-preserved
loop-code-preserved g c =
    less_left _ _ _ _ _ _ _ _
    (blocks_at code_line c.args.codes.now c.loop-code.code-index c.code-item.result _ (omega arith) c.code-item.is c.put_code.ensures) c.loop-code.invariant c.in_ok-write_line.ensures

pub returns : goal.returns
returns g c = nothing_left _ _ _ _ _ (no_blocks_at code_line c.args.codes.now c.loop-code.code-index (omega arith)) c.loop-code.invariant
