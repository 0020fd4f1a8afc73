use Rattle.std.proofs.Common.{◌≡◌, ◌+◌, length}
use Rattle.s7_base.specs.Statements.{all_land}
use Rattle.s7_base.proofs.jumps.all_land.Given as goal

-- what is left of the block decides
abbrev pub invariant-loop-rest : goal.invariant-loop-rest
invariant-loop-rest l = (l.at + length l.rest ≡ length l.statements) × (all_land l.at l.rest ≡ all_land 0 l.statements)

abbrev pub decreases-loop-rest : goal.decreases-loop-rest
decreases-loop-rest l = length l.rest
