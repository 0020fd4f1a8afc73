use Rattle.std.specs.Cmp.Lexicographic.{slice_cmp}
use Rattle.std.specs.Ordering.{nat_cmp}
use Rattle.std.specs.BTreeMap.{get}
use Rattle.block_loader.proofs.Names.{block_found}
use Rattle.block_loader.proofs.faults.take_code.Goals as goal

pub returns : goal.returns
returns c =
    block_found (get (slice_cmp nat_cmp) c.in_ok-names.names) c.args.code.now c.args.found c.in_ok-names.least c.take_jumps.result
    (rw c.labels.ensures at c.in_ok-names.ensures.names) (rw c.labels.ensures at c.in_ok-names.ensures.found) (rw (c.statements.ensures, c.jumps.ensures) at c.take_jumps.ensures)
