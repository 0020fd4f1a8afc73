use Rattle.std.proofs.Common.{◌≡◌, ◌≤◌}
use Rattle.pair_top.specs.Pattern.{most_visits, pieces, parts_of}
use Rattle.pair_top.specs.PatternView.{pieces_left}
use Rattle.pair_top.proofs.Patterns.{are_few, bytes_left}
use Rattle.pair_top.proofs.pattern.is_pattern.Given as goal

abbrev pub invariant-loop-left : goal.invariant-loop-left
invariant-loop-left l = record {
  same : are_few l.visits (parts_of (pieces_left l.left)) ≡ are_few 0 (parts_of (pieces l.word));
  within : l.visits ≤ most_visits;
}

abbrev pub decreases-loop-left : goal.decreases-loop-left
decreases-loop-left l = bytes_left l.left
