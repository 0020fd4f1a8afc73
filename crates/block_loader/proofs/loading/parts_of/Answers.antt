use Rattle.std.proofs.Common.{arith}
use Rattle.block_loader.specs.Load.{added}
use Rattle.block_loader.proofs.Program.{fold_more, fold_done}
use Rattle.block_loader.proofs.loading.parts_of.Goals as goal

pub loop-block-preserved : goal.loop-block-preserved
loop-block-preserved c = fold_more added c.args.blocks.now c.loop-block.block-index c.loop-block.parts c.add.new.parts _ c.block-item.result (omega arith) c.block-item.is c.in_ok-add.ensures.exact c.loop-block.invariant

pub returns-clause-exact : goal.returns-clause-exact
returns-clause-exact c = fold_done added c.args.blocks.now c.loop-block.block-index c.loop-block.parts _ (omega arith) c.loop-block.invariant
