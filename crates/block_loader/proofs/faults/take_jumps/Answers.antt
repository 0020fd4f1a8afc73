use Rattle.std.proofs.Common.{arith}
use Rattle.std.specs.Cmp.Lexicographic.{slice_cmp}
use Rattle.std.specs.Ordering.{nat_cmp}
use Rattle.std.specs.BTreeMap.{get}
use Rattle.block_loader.specs.Faults.{jump_fault}
use Rattle.block_loader.proofs.Names.{next_one, none_left, no_jump_there}
use Rattle.block_loader.proofs.faults.take_jumps.Goals as goal

pub loop-jump-preserved : goal.loop-jump-preserved
loop-jump-preserved c = next_one (λ j. jump_fault c.args.statements.now (get (slice_cmp nat_cmp) c.args.names.now j.name) j) c.args.jumps.now c.loop-jump.jump-index no_jump_there c.loop-jump.least c.take_jump-least.result _ (omega arith) (rw (c.get.ensures.value) at (rw c.copied-target.ensures at c.take_jump-least.ensures)) c.loop-jump.invariant

pub returns : goal.returns
returns c = none_left (λ j. jump_fault c.args.statements.now (get (slice_cmp nat_cmp) c.args.names.now j.name) j) c.args.jumps.now c.loop-jump.jump-index no_jump_there c.loop-jump.least _ (omega arith) c.loop-jump.invariant
