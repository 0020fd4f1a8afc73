use Rattle.std.proofs.Common.{◌≡◌, length}
use Rattle.s7_base.specs.Limits.{codes_rise}
use Rattle.s7_base.proofs.limits.do_codes_rise.Given as goal

-- what is left decides
abbrev pub invariant-loop-rest : goal.invariant-loop-rest
invariant-loop-rest l = codes_rise l.rest ≡ codes_rise l.codes

abbrev pub decreases-loop-rest : goal.decreases-loop-rest
decreases-loop-rest l = length l.rest
