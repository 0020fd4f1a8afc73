use Rattle.block_loader.proofs.Sources.{heads_found}
use Rattle.block_loader.proofs.faults.take_head.Goals as goal

pub returns : goal.returns
returns c = heads_found c.args.taken c.args.number c.args.totals c.args.block.now c.args.found c.take_at_head-double.result c.take_at_head-many.result c.take_at_head.result c.is_too_large-too_large.result c.take_at_head-double.ensures c.take_at_head-many.ensures c.is_too_large-too_large.ensures c.take_at_head.ensures
