use Rattle.std.proofs.Common.{◌<◌, length, Some, None, sym, ◌∙◌, arith}
use Rattle.trace_reader.proofs.Cells.{more_read, first_more, dark_image, cells_go_on, bytes_more, bytes_all, lit_exact, dash_exact}
use Rattle.trace_reader.proofs.images.image_at.Goals as goal

pub loop-at-preserved : goal.loop-at-preserved
loop-at-preserved c =
    let bytes = c.loop-at.bytes in
    let at = c.loop-at.at in
    let byte = c.byte_of-byte.result.0 in
    let below : at < length bytes = omega (arith, c.loop-at.auto.bytes, c.loop-at-test.true) in
    record {
      whole = more_read c.args.text.now bytes c.loop-at.rest.now c.byte_of-byte.result.1.now at byte c.loop-at.is_first below c.loop-at.invariant.whole c.loop-at.invariant.first c.byte_of-byte.ensures.written;
      fits = bytes_more bytes at byte below c.loop-at.invariant.fits c.byte_of-byte.ensures.within;
      read = rw c.still_first-is_first.ensures (cells_go_on c.args.text.now bytes c.loop-at.rest.now c.byte_of-byte.result.1.now at byte c.loop-at.is_first below c.byte_of-byte.ensures.exact c.loop-at.invariant.read);
      first = c.still_first-is_first.ensures ∙ first_more bytes at byte c.loop-at.is_first below c.loop-at.invariant.first;
    }

pub returns-then-not-is_first-clause-fits : goal.returns-then-not-is_first-clause-fits
returns-then-not-is_first-clause-fits c = bytes_all c.loop-at.bytes c.loop-at.at (omega (arith, c.loop-at.auto.bytes, c.loop-at-test.false)) c.loop-at.invariant.fits

pub returns-clause-fits : goal.returns-clause-fits
returns-clause-fits c = bytes_all c.loop-at.bytes c.loop-at.at (omega (arith, c.loop-at.auto.bytes, c.loop-at-test.false)) c.loop-at.invariant.fits

pub returns-clause-written : goal.returns-clause-written
returns-clause-written c =
    dark_image c.args.text.now c.loop-at.bytes c.loop-at.rest.now c.in_ok-rest.rest.now c.loop-at.at (omega (arith, c.loop-at.auto.bytes, c.loop-at-test.false)) c.loop-at.invariant.whole c.loop-at.is_first c.loop-at.invariant.first c.if-not-is_first.false c.in_ok-rest.ensures.written

pub returns-then-not-is_first-clause-exact : goal.returns-then-not-is_first-clause-exact
returns-then-not-is_first-clause-exact c =
    lit_exact c.args.text.now c.loop-at.bytes c.loop-at.rest.now (length c.args.bytes.now) c.loop-at.at c.loop-at.is_first (omega (arith, c.loop-at.auto.bytes, c.loop-at-test.false)) (omega (arith, c.loop-at.auto.bytes))
    (rw (sym c.loop-at.auto.bytes) c.loop-at.invariant.read) c.loop-at.invariant.first c.if-not-is_first.true

pub returns-in_err-rest-clause-exact : goal.returns-in_err-rest-clause-exact
returns-in_err-rest-clause-exact c =
    rw c.from_residual.ensures (
    dash_exact c.args.text.now c.loop-at.bytes c.loop-at.rest.now (length c.args.bytes.now) c.loop-at.at c.loop-at.is_first None (omega (arith, c.loop-at.auto.bytes, c.loop-at-test.false)) (omega (arith, c.loop-at.auto.bytes))
    (rw (sym c.loop-at.auto.bytes) c.loop-at.invariant.read) c.loop-at.invariant.first c.if-not-is_first.false c.in_err-rest.ensures.exact)

pub returns-clause-exact : goal.returns-clause-exact
returns-clause-exact c =
    dash_exact c.args.text.now c.loop-at.bytes c.loop-at.rest.now (length c.args.bytes.now) c.loop-at.at c.loop-at.is_first (Some c.in_ok-rest.rest.now) (omega (arith, c.loop-at.auto.bytes, c.loop-at-test.false)) (omega (arith, c.loop-at.auto.bytes))
    (rw (sym c.loop-at.auto.bytes) c.loop-at.invariant.read) c.loop-at.invariant.first c.if-not-is_first.false c.in_ok-rest.ensures.exact
