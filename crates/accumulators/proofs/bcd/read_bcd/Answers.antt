use Rattle.std.proofs.Common.{◌≤◌, ◌*◌, ◌^◌, arith}
use Rattle.std.proofs.Math.Nat.{mul-le-mul_left}
use Rattle.accumulators.proofs.Digits.{weight_below, reads_more, reads_none, reads_all}
use Rattle.accumulators.proofs.bcd.read_bcd.Goals as goal

pub returns-then-digit-gt-GREATEST_DIGIT : goal.returns-then-digit-gt-GREATEST_DIGIT
returns-then-digit-gt-GREATEST_DIGIT c =
    reads_none c.args.places c.args.word c.loop-done._done c.loop-done.rest c.loop-done.weight c.loop-done.number c.loop-done-test.true c.if-digit-gt-GREATEST_DIGIT.true c.loop-done.invariant

pub overflow_mul-number : goal.overflow_mul-number
overflow_mul-number c =
    let bound : c.loop-done.weight * 10 ≤ 10 ^ 7 = weight_below c.loop-done.weight 10 c.loop-done._done c.args.places (omega arith) c.loop-done.invariant.weighs c.loop-done-test.true c.requires
    in omega (arith, mul-le-mul_left c.loop-done.weight c.if-digit-gt-GREATEST_DIGIT.false)

pub overflow_add-number : goal.overflow_add-number
overflow_add-number c =
    let bound : c.loop-done.weight * 10 ≤ 10 ^ 7 = weight_below c.loop-done.weight 10 c.loop-done._done c.args.places (omega arith) c.loop-done.invariant.weighs c.loop-done-test.true c.requires
    in omega (arith, mul-le-mul_left c.loop-done.weight c.if-digit-gt-GREATEST_DIGIT.false)

pub overflow_mul-weight : goal.overflow_mul-weight
overflow_mul-weight c =
    let bound : c.loop-done.weight * 10 ≤ 10 ^ 7 = weight_below c.loop-done.weight 10 c.loop-done._done c.args.places (omega arith) c.loop-done.invariant.weighs c.loop-done-test.true c.requires
    in omega arith

pub loop-done-preserved : goal.loop-done-preserved
loop-done-preserved c =
    reads_more c.args.places c.args.word c.loop-done._done c.loop-done.rest c.loop-done.weight c.loop-done.number c.loop-done-test.true c.if-digit-gt-GREATEST_DIGIT.false c.loop-done.invariant

pub returns : goal.returns
returns c =
    reads_all c.args.places c.args.word c.loop-done._done c.loop-done.rest c.loop-done.weight c.loop-done.number c.loop-done-test.false c.loop-done.invariant
