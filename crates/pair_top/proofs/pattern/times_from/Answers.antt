-- A number that is too large.
use Rattle.std.proofs.Common.{◌<◌, ◌+◌, ◌-◌, ◌*◌, get_or, sym, arith}
use Rattle.pair_top.specs.Pattern.{most_times, times_of}
use Rattle.pair_top.proofs.Patterns.{too_many_times}
use Rattle.pair_top.proofs.pattern.times_from.Goals as goal

pub returns-then-times-gt-MOST_TIMES-clause-times : goal.returns-then-times-gt-MOST_TIMES-clause-times
returns-then-times-gt-MOST_TIMES-clause-times c =
    let digits = c.args.digits.now in
    let i = c.loop-digit.digit-index in
    let big : most_times < 10 * c.loop-digit.times + (get_or digits i 0 - 48) = omega arith in
    sym (too_many_times digits i c.loop-digit.times (times_of digits) c.loop-digit-test.true big c.loop-digit.invariant.same)
