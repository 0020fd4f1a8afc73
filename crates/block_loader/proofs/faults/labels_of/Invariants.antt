use Rattle.std.proofs.Common.{◌≡◌, ℕ, List, take, drop, []}
use Rattle.std.specs.Cmp.Lexicographic.{slice_cmp}
use Rattle.std.specs.Ordering.{nat_cmp}
use Rattle.std.specs.BTreeMap.{get}
use Rattle.block_loader.specs.Faults.{target, least_of, double_labels}
use Rattle.block_loader.proofs.faults.labels_of.Given as goal

abbrev pub invariant-loop-label : goal.invariant-loop-label
invariant-loop-label l = record {
  names : (k : List ℕ) → get (slice_cmp nat_cmp) l.names k ≡ target (take l.label-index l.labels) k;
  found : least_of l.least (double_labels (take l.label-index l.labels) (drop l.label-index l.labels)) ≡ least_of l.fn.found (double_labels [] l.labels);
}
