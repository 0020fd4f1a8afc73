use Rattle.std.proofs.Common.{◌≡◌, ◌+◌, take}
use Rattle.s7_base.specs.Limits.{all_bytes}
use Rattle.s7_base.proofs.limits.has_few_bytes.Given as goal

abbrev pub invariant-loop-block : goal.invariant-loop-block
invariant-loop-block l = all_bytes (take l.block-index l.blocks) + l.left ≡ 32768
