-- One more of them fits; at the end these are all.
use Rattle.std.proofs.Common.{◌≤◌, All, subst, arith, length}
use Rattle.std.proofs.lemmas.List.{take_all}
use Rattle.std.proofs.lemmas.List.Elements.{All-more}
use Rattle.dynamic_pages.specs.Pages.{IsStoredCounter}
use Rattle.dynamic_pages.proofs.units.counters_fit.Goals as goal

pub loop-counter-preserved : goal.loop-counter-preserved
loop-counter-preserved c =
    let all = c.args.counters.now in
    let i = c.loop-counter.counter-index in
    All-more IsStoredCounter all i c.counter-item.result (omega (arith, c.told-counters, c.loop-counter-test.true)) c.loop-counter.invariant
    c.counter_fits.ensures

pub returns : goal.returns
returns c =
    let all = c.args.counters.now in
    let i = c.loop-counter.counter-index in
    let past : length all ≤ i = omega (arith, c.told-counters, c.loop-counter-test.false) in
    subst (λ xs. All IsStoredCounter xs) (take_all i all past) c.loop-counter.invariant
