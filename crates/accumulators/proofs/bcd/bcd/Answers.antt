use Rattle.std.proofs.Common.{◌≤◌, ◌*◌, ◌%◌, ◌^◌, arith}
use Rattle.std.proofs.Math.Nat.{mul-le-mul_left}
use Rattle.accumulators.proofs.Digits.{weight_below, writes_more, writes_all}
use Rattle.accumulators.proofs.bcd.bcd.Goals as goal

pub overflow_mul-word : goal.overflow_mul-word
overflow_mul-word c =
    let bound : c.loop-done.weight * 16 ≤ 16 ^ 7 = weight_below c.loop-done.weight 16 c.loop-done._done c.args.places (omega arith) c.loop-done.invariant.weighs c.loop-done-test.true c.requires
    in let digit : c.loop-done.rest % 10 ≤ 15 = omega arith
    in omega (arith, mul-le-mul_left c.loop-done.weight digit)

pub overflow_add-word : goal.overflow_add-word
overflow_add-word c =
    let bound : c.loop-done.weight * 16 ≤ 16 ^ 7 = weight_below c.loop-done.weight 16 c.loop-done._done c.args.places (omega arith) c.loop-done.invariant.weighs c.loop-done-test.true c.requires
    in let digit : c.loop-done.rest % 10 ≤ 15 = omega arith
    in omega (arith, mul-le-mul_left c.loop-done.weight digit)

pub overflow_mul-weight : goal.overflow_mul-weight
overflow_mul-weight c =
    let bound : c.loop-done.weight * 16 ≤ 16 ^ 7 = weight_below c.loop-done.weight 16 c.loop-done._done c.args.places (omega arith) c.loop-done.invariant.weighs c.loop-done-test.true c.requires
    in omega arith

pub loop-done-preserved : goal.loop-done-preserved
loop-done-preserved c =
    writes_more c.args.places c.args.number c.loop-done._done c.loop-done.rest c.loop-done.weight c.loop-done.word c.loop-done-test.true c.loop-done.invariant

pub returns-clause-value : goal.returns-clause-value
returns-clause-value c =
    writes_all c.args.places c.args.number c.loop-done._done c.loop-done.rest c.loop-done.weight c.loop-done.word c.loop-done-test.false c.loop-done.invariant
