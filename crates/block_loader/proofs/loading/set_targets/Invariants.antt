use Rattle.std.proofs.Common.{◌≡◌, drop}
use Rattle.std.specs.List.{fold}
use Rattle.std.specs.Cmp.Lexicographic.{slice_cmp}
use Rattle.std.specs.Ordering.{nat_cmp}
use Rattle.std.specs.BTreeMap.{get}
use Rattle.block_loader.specs.Load.{landed_one}
use Rattle.block_loader.proofs.loading.set_targets.Given as goal

abbrev pub invariant-loop-jump : goal.invariant-loop-jump
invariant-loop-jump l =
    fold (landed_one (get (slice_cmp nat_cmp) l.names)) l.statements.items (drop l.jump-index l.jumps) ≡ fold (landed_one (get (slice_cmp nat_cmp) l.names)) l.initial.statements.items l.jumps
