-- The next number is found too.
use Rattle.std.proofs.Common.{◌∙◌, arith}
use Rattle.std.proofs.lemmas.List.{length-set}
use Rattle.mc_machine.proofs.Stored.{found_so_far}
use Rattle.mc_machine.proofs.index.indices_of.Goals as goal

pub loop-number-preserved : goal.loop-number-preserved
loop-number-preserved c =
    let indices = c.loop-number.indices in
    let number = c.loop-number.number in
    let so_far = c.loop-number.invariant in
    let below = c.loop-number-test.true in
    let long = so_far.1 in
    (found_so_far c.args.codes.now c.args.kind indices number c.index_in.result (omega arith) c.index_in.ensures so_far.0, length-set indices number c.index_in.result ∙ long)
