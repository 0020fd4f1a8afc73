-- Bytes that are each those of the page are the page.
use Rattle.std.proofs.Common.{ℕ, ◌+◌, ◌*◌, get_or, arith}
use Rattle.std.proofs.lemmas.List.FromFn.{fill_by_all}
use Rattle.dynamic_pages.specs.Pages.{page_of, counter_bytes}
use Rattle.dynamic_pages.proofs.units.counter_page.Goals as goal

pub returns : goal.returns
unfolding page_of
returns c =
    fill_by_all (λ (i : ℕ). get_or (counter_bytes c.args.counters.now) (256 * c.args.k + i) 0) c.loop-i.page 256 0 c.loop-i.invariant.0
    (λ j below. c.loop-i.invariant.1 j (omega arith))
