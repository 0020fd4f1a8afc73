use Rattle.std.proofs.Common.{◌≤◌, ◌<◌, ◌+◌, ◌*◌, ◌^◌, arith, rules}
use Rattle.ft_connection.proofs.NumberLaws.{one_more, eight_digits}
use Rattle.ft_connection.proofs.words.job_from.Goals as goal

pub overflow_mul-job : goal.overflow_mul-job
overflow_mul-job c =
    let most : 16 ^ (c.loop-digit.digit-index + 1) ≤ 2 ^ 32 = eight_digits _ (omega arith) in
    let next : 16 * c.loop-digit.job + 0 < 16 ^ (c.loop-digit.digit-index + 1) = one_more _ c.loop-digit.job 0 c.loop-digit.invariant.1 (omega arith) in
    omega arith

pub overflow_add-job : goal.overflow_add-job
overflow_add-job c =
    let most : 16 ^ (c.loop-digit.digit-index + 1) ≤ 2 ^ 32 = eight_digits _ (omega arith) in
    let small : c.in_ok-digit_from.field-0 < 16 = search rules in
    let next : 16 * c.loop-digit.job + c.from.result < 16 ^ (c.loop-digit.digit-index + 1) =
    one_more _ c.loop-digit.job c.from.result c.loop-digit.invariant.1 (omega arith) in
    omega arith
