use Rattle.std.proofs.Common.{arith}
use Rattle.std.specs.Cmp.Lexicographic.{slice_cmp}
use Rattle.std.specs.Ordering.{nat_cmp}
use Rattle.std.specs.BTreeMap.{get}
use Rattle.block_loader.proofs.Names.{next_label, no_label, next_names, no_label_there, at_target}
use Rattle.block_loader.proofs.faults.labels_of.Goals as goal

pub loop-label-preserved : goal.loop-label-preserved
loop-label-preserved c = record {
  names = next_names c.args.labels.now c.loop-label.label-index no_label_there (get (slice_cmp nat_cmp) c.loop-label.names) (get (slice_cmp nat_cmp) c.take_label.new.names) (omega arith) c.loop-label.invariant.names c.in_ok-least.ensures.names;
  found = next_label c.args.labels.now c.loop-label.label-index no_label_there c.loop-label.least c.in_ok-least.least _ (omega arith)
      (at_target c.args.labels.now c.loop-label.label-index no_label_there (get (slice_cmp nat_cmp) c.loop-label.names) c.loop-label.least c.in_ok-least.least c.loop-label.invariant.names c.in_ok-least.ensures.found) c.loop-label.invariant.found;
}

pub returns-clause-found : goal.returns-clause-found
returns-clause-found c = no_label c.args.labels.now c.loop-label.label-index no_label_there c.loop-label.least _ (omega arith) c.loop-label.invariant.found
