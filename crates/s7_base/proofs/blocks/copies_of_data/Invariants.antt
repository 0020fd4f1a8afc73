use Rattle.std.proofs.Common.{◌≡◌, take}
use Rattle.s7_base.proofs.blocks.copies_of_data.Given as goal

abbrev pub invariant-loop-block : goal.invariant-loop-block
invariant-loop-block l = l.copies.items ≡ take l.block-index l.blocks
