use Rattle.std.proofs.Common.{◌≡◌, drop}
use Rattle.std.specs.Cmp.Lexicographic.{slice_cmp}
use Rattle.std.specs.Ordering.{nat_cmp}
use Rattle.std.specs.List.{flat_map}
use Rattle.std.specs.BTreeMap.{get}
use Rattle.block_loader.specs.Faults.{jump_fault, least_of}
use Rattle.block_loader.proofs.faults.take_jumps.Given as goal

abbrev pub invariant-loop-jump : goal.invariant-loop-jump
invariant-loop-jump l =
    least_of l.least (flat_map (λ j. jump_fault l.statements (get (slice_cmp nat_cmp) l.names j.name) j) (drop l.jump-index l.jumps)) ≡ least_of l.fn.found (flat_map (λ j. jump_fault l.statements (get (slice_cmp nat_cmp) l.names j.name) j) l.jumps)
