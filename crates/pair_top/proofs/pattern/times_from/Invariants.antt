use Rattle.std.proofs.Common.{◌≡◌, ◌≤◌, drop}
use Rattle.std.specs.Str.{all_ascii_digits}
use Rattle.pair_top.specs.Fields.{value_from}
use Rattle.pair_top.specs.Pattern.{most_times, times_by, times_of}
use Rattle.pair_top.proofs.pattern.times_from.Given as goal

abbrev pub invariant-loop-digit : goal.invariant-loop-digit
invariant-loop-digit l = record {
  same : times_by (all_ascii_digits (drop l.digit-index l.digits)) (value_from l.times (drop l.digit-index l.digits)) ≡ times_of l.digits;
  within : l.times ≤ most_times;
}
