use Rattle.std.proofs.Common.{◌≡◌, arith, ◌+◌, ◌*◌}
use Rattle.trace_reader.proofs.Fronts.{double_read}
use Rattle.trace_reader.proofs.fields.double_at.Goals as goal

pub returns-clause-written : goal.returns-clause-written
returns-clause-written c =
    let number : c.from.result * 65536 + c.from-2.result ≡ c.in_ok-high.high * 65536 + c.in_ok-low.low = omega (arith, c.from.ensures, c.from-2.ensures) in
    double_read c.args.text.now c.in_ok-high.rest.now c.in_ok-low.rest.now c.in_ok-high.high c.in_ok-low.low _ number c.in_ok-low.ensures.within c.in_ok-high.ensures.written c.in_ok-low.ensures.written
