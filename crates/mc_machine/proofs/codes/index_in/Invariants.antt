-- The block is not among those before.
use Rattle.std.proofs.Common.{◌≡◌, drop}
use Rattle.s7_base.specs.Blocks.{code_named}
use Rattle.mc_machine.proofs.codes.index_in.Given as goal

abbrev pub invariant-loop-index : goal.invariant-loop-index
invariant-loop-index l = code_named (drop l.index l.codes) l.block.kind l.block.number ≡ code_named l.codes l.block.kind l.block.number
