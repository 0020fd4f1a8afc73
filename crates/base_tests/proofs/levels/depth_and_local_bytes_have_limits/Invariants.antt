-- A level stays there.
use Rattle.std.proofs.Common.{◌≡◌, length}
use Rattle.base_tests.proofs.levels.depth_and_local_bytes_have_limits.Given as goal

abbrev pub invariant-loop : goal.invariant-loop
invariant-loop g l = length l.levels ≡ 1
