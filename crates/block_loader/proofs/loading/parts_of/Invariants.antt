use Rattle.std.proofs.Common.{◌≡◌, drop}
use Rattle.std.specs.List.{fold}
use Rattle.block_loader.specs.Load.{added, no_blocks}
use Rattle.block_loader.proofs.loading.parts_of.Given as goal

abbrev pub invariant-loop-block : goal.invariant-loop-block
invariant-loop-block l = fold added l.parts (drop l.block-index l.blocks) ≡ fold added no_blocks l.blocks
