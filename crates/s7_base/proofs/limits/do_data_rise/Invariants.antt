use Rattle.std.proofs.Common.{◌≡◌, length}
use Rattle.s7_base.specs.Limits.{data_rise}
use Rattle.s7_base.proofs.limits.do_data_rise.Given as goal

-- what is left decides
abbrev pub invariant-loop-rest : goal.invariant-loop-rest
invariant-loop-rest l = data_rise l.rest ≡ data_rise l.blocks

abbrev pub decreases-loop-rest : goal.decreases-loop-rest
decreases-loop-rest l = length l.rest
