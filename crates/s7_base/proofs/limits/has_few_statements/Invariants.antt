use Rattle.std.proofs.Common.{◌≡◌, ◌+◌, take}
use Rattle.s7_base.specs.Limits.{all_statements}
use Rattle.s7_base.proofs.limits.has_few_statements.Given as goal

abbrev pub invariant-loop-code : goal.invariant-loop-code
invariant-loop-code l = all_statements (take l.code-index l.codes) + l.left ≡ 12000
