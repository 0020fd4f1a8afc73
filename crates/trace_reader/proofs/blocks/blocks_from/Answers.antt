use Rattle.std.proofs.Common.{◌≡◌, Some, None, sym}
use Rattle.trace_reader.specs.Lines.{block_at}
use Rattle.trace_reader.specs.Ranges.{FitsBlock}
use Rattle.trace_reader.specs.Text.{block_line}
use Rattle.trace_reader.proofs.Sections.{more_after, each_more}
use Rattle.trace_reader.proofs.ReadTail.{block_again}
use Rattle.trace_reader.proofs.GoesOn.{one_less, none_left, no_block}
use Rattle.trace_reader.proofs.blocks.blocks_from.Goals as goal

pub blocks-2-preserved : goal.blocks-2-preserved
blocks-2-preserved c =
    let items = c.in_ok-push.ensures.items in
    let read = rw c.in-Some.is at c.in_ok-block.ensures in
    let found : block_at c.blocks-2.rest.now ≡ Some (c.in-Some.block, c.in-Some.next.now) = sym read.exact in
    record {
      whole = rw items (more_after block_line c.args.text.now c.blocks-2.blocks.items c.in-Some.block c.blocks-2.rest.now c.in-Some.next.now c.blocks-2.invariant.whole read.written);
      fits = rw items (each_more FitsBlock c.blocks-2.blocks.items c.in-Some.block c.blocks-2.invariant.fits read.fits);
      left = λ all end fit closed whole.
          rw items (one_less block_line FitsBlock block_at all c.blocks-2.blocks.items c.blocks-2.rest.now end c.in-Some.next.now c.in-Some.block block_again (no_block end closed) found (c.blocks-2.invariant.left all end fit closed whole));
    }

pub returns-clause-over : goal.returns-clause-over
returns-clause-over c =
    let read = rw c.in_default.is at c.in_ok-block.ensures in
    sym read.exact

pub returns-clause-exact : goal.returns-clause-exact
returns-clause-exact c = λ blocks rest fit closed whole.
    let read = rw c.in_default.is at c.in_ok-block.ensures in
    let over : block_at c.blocks-2.rest.now ≡ None = sym read.exact in
    (none_left block_line FitsBlock block_at blocks c.blocks-2.blocks.items c.blocks-2.rest.now rest block_again over (c.blocks-2.invariant.left blocks rest fit closed whole)).1
