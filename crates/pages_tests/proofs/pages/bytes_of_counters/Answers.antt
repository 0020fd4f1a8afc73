-- All pages are the bytes of the counters.
use Rattle.std.proofs.Common.{◌≡◌, ◌*◌, List, length, refl, arith}
use Rattle.counters.specs.Bytes.{bytes_of}
use Rattle.dynamic_pages.specs.Pages.{counter_bytes}
use Rattle.dynamic_pages.proofs.Laid.{laid_length}
use Rattle.pages_tests.proofs.More.{page_more, all_pages}
use Rattle.pages_tests.proofs.pages.bytes_of_counters.Goals as goal

pub loop-k-preserved : goal.loop-k-preserved
loop-k-preserved c =
    page_more c.loop-k.bytes.items (counter_bytes c.args.counters.now) c.counter_page.result _ c.loop-k.k c.loop-k.invariant c.counter_page.ensures
    c.in_ok-extend_from_slice.ensures.items

pub returns : goal.returns
returns c =
    let all = c.args.counters.now in
    let long : length (counter_bytes all) ≡ 4 * length all = laid_length bytes_of 4 (λ x. refl) all in
    record {
      count = c.told-counters;
      fit = c.counters_fit.ensures;
      bytes = all_pages c.loop-k.bytes.items (counter_bytes all) c.loop-k.k 4 1024 c.loop-k.invariant (omega (arith, c.loop-k-test.false, c.loop-k.auto.k-end)) (omega (arith, long, c.told-counters)) (omega (arith, long, c.told-counters));
    }
