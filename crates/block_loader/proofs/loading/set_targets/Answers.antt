use Rattle.std.proofs.Common.{arith}
use Rattle.std.specs.Cmp.Lexicographic.{slice_cmp}
use Rattle.std.specs.Ordering.{nat_cmp}
use Rattle.std.specs.BTreeMap.{get}
use Rattle.block_loader.specs.Load.{landed_one}
use Rattle.block_loader.proofs.Program.{fold_next, fold_done}
use Rattle.block_loader.proofs.Names.{no_jump_there}
use Rattle.block_loader.proofs.loading.set_targets.Goals as goal

pub loop-jump-preserved : goal.loop-jump-preserved
loop-jump-preserved c = fold_next (landed_one (get (slice_cmp nat_cmp) c.args.names.now)) c.args.jumps.now c.loop-jump.jump-index c.loop-jump.statements.items c.set_target.new.statements.items _ no_jump_there (omega arith) (rw (c.get.ensures.value) at (rw c.copied-target.ensures at c.set_target.ensures)) c.loop-jump.invariant

pub returns : goal.returns
returns c = fold_done (landed_one (get (slice_cmp nat_cmp) c.args.names.now)) c.args.jumps.now c.loop-jump.jump-index c.loop-jump.statements.items _ (omega arith) c.loop-jump.invariant
