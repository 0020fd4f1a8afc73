use Rattle.std.proofs.Common.{◌≡◌, Some, None, sym}
use Rattle.trace_reader.specs.Lines.{counter_at}
use Rattle.trace_reader.specs.Ranges.{FitsCounter}
use Rattle.trace_reader.specs.Text.{counter_line}
use Rattle.trace_reader.proofs.Sections.{more_after, each_more}
use Rattle.trace_reader.proofs.ReadTail.{counter_again}
use Rattle.trace_reader.proofs.GoesOn.{one_less, none_left, no_counter}
use Rattle.trace_reader.proofs.blocks.counters_from.Goals as goal

pub counters-preserved : goal.counters-preserved
counters-preserved c =
    let items = c.in_ok-push.ensures.items in
    let found : counter_at c.counters.rest.now ≡ Some (c.in-Some.counter, c.in-Some.next.now) = sym c.in-Some.ensures.exact in
    record {
      whole = rw items (more_after counter_line c.args.text.now c.counters.counters.items c.in-Some.counter c.counters.rest.now c.in-Some.next.now c.counters.invariant.whole c.in-Some.ensures.written);
      fits = rw items (each_more FitsCounter c.counters.counters.items c.in-Some.counter c.counters.invariant.fits c.in-Some.ensures.fits);
      left = λ all end fit closed whole.
          rw items (one_less counter_line FitsCounter counter_at all c.counters.counters.items c.counters.rest.now end c.in-Some.next.now c.in-Some.counter counter_again (no_counter end closed) found (c.counters.invariant.left all end fit closed whole));
    }

pub returns-clause-over : goal.returns-clause-over
returns-clause-over c =
    let read = rw c.in_default.is at c.counter_at.ensures in
    sym read.exact

pub returns-clause-exact : goal.returns-clause-exact
returns-clause-exact c = λ counters rest fit closed whole.
    let read = rw c.in_default.is at c.counter_at.ensures in
    let over : counter_at c.counters.rest.now ≡ None = sym read.exact in
    (none_left counter_line FitsCounter counter_at counters c.counters.counters.items c.counters.rest.now rest counter_again over (c.counters.invariant.left counters rest fit closed whole)).1
