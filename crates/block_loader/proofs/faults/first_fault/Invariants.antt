use Rattle.std.proofs.Common.{◌≡◌, ◌≤◌, ◌+◌, ℕ, List, take, drop, [], map}
use Rattle.std.specs.Prelude.{None}
use Rattle.std.specs.List.{list_any}
use Rattle.std.specs.Str.{bytes_eq}
use Rattle.indexmap.specs.IndexSet.{contains}
use Rattle.block_loader.specs.Faults.{blocks_faults, least_of, name_of, no_totals}
use Rattle.block_loader.proofs.faults.first_fault.Given as goal

abbrev pub invariant-loop-block : goal.invariant-loop-block
invariant-loop-block l = record {
  names : (k : List ℕ) → contains bytes_eq l.names k ≡ list_any (λ n. bytes_eq n k) (map name_of (take l.block-index l.blocks));
  count : l.number ≡ l.block-index;
  found : least_of l.least (blocks_faults (l.block-index + 1) (map name_of (take l.block-index l.blocks)) l.totals (drop l.block-index l.blocks)) ≡ least_of None (blocks_faults 1 [] no_totals l.blocks);
  statements : l.totals.statements ≤ 1000000;
  bytes : l.totals.bytes ≤ 1000000;
  pages : l.totals.pages ≤ 1000000;
}
