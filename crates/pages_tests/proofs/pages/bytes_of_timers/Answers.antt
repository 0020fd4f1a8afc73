-- All pages are the bytes of the timers.
use Rattle.std.proofs.Common.{◌≡◌, ◌*◌, List, length, refl, arith}
use Rattle.timers.specs.Bytes.{bytes_of}
use Rattle.dynamic_pages.specs.Pages.{timer_bytes}
use Rattle.dynamic_pages.proofs.Laid.{laid_length}
use Rattle.pages_tests.proofs.More.{page_more, all_pages}
use Rattle.pages_tests.proofs.pages.bytes_of_timers.Goals as goal

pub loop-k-preserved : goal.loop-k-preserved
loop-k-preserved c =
    page_more c.loop-k.bytes.items (timer_bytes c.args.timers.now) c.timer_page.result _ c.loop-k.k c.loop-k.invariant c.timer_page.ensures
    c.in_ok-extend_from_slice.ensures.items

pub returns : goal.returns
returns c =
    let all = c.args.timers.now in
    let long : length (timer_bytes all) ≡ 24 * length all = laid_length bytes_of 24 (λ x. refl) all in
    record {
      count = c.told-timers;
      fit = c.timers_fit.ensures;
      bytes = all_pages c.loop-k.bytes.items (timer_bytes all) c.loop-k.k 24 6144 c.loop-k.invariant (omega (arith, c.loop-k-test.false, c.loop-k.auto.k-end)) (omega (arith, long, c.told-timers)) (omega (arith, long, c.told-timers));
    }
