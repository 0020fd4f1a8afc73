-- The registers are those whose page this is.
use Rattle.std.proofs.Common.{rules}
use Rattle.dynamic_pages.proofs.Again.{registers_read}
use Rattle.dynamic_pages.proofs.registers.CycleRegisters.of_page.Goals as goal

pub returns : goal.returns
returns c r fits e = registers_read c.args.page.now _ r (search rules) fits e
