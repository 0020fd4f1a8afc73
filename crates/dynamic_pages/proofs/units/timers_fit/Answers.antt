-- One more of them fits; at the end these are all.
use Rattle.std.proofs.Common.{◌≤◌, All, subst, arith, length}
use Rattle.std.proofs.lemmas.List.{take_all}
use Rattle.std.proofs.lemmas.List.Elements.{All-more}
use Rattle.dynamic_pages.specs.Pages.{IsStoredTimer}
use Rattle.dynamic_pages.proofs.units.timers_fit.Goals as goal

pub loop-timer-preserved : goal.loop-timer-preserved
loop-timer-preserved c =
    let all = c.args.timers.now in
    let i = c.loop-timer.timer-index in
    All-more IsStoredTimer all i c.timer-item.result (omega (arith, c.told-timers, c.loop-timer-test.true)) c.loop-timer.invariant
    c.timer_fits.ensures

pub returns : goal.returns
returns c =
    let all = c.args.timers.now in
    let i = c.loop-timer.timer-index in
    let past : length all ≤ i = omega (arith, c.told-timers, c.loop-timer-test.false) in
    subst (λ xs. All IsStoredTimer xs) (take_all i all past) c.loop-timer.invariant
