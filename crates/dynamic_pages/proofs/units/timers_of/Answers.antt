-- Each timer is that of its bytes.
use Rattle.std.proofs.Common.{◌≡◌, ℕ, ◌*◌, ◌<◌, ◌≤◌, List, length, get_or, refl, sym, ap, subst, ◌∙◌, arith}
use Rattle.std.proofs.lemmas.List.{ext_get_or, length-set}
use Rattle.std.proofs.lemmas.List.Elements.{All-get_or}
use Rattle.timers.specs.State.{TimerState, fresh}
use Rattle.timers.specs.Bytes.{bytes_of, timer_of, IsTimer}
use Rattle.dynamic_pages.specs.Pages.{part, IsStoredTimer, HoldTimers}
use Rattle.dynamic_pages.proofs.Laid.{piece, long, set_more}
use Rattle.dynamic_pages.proofs.units.timers_of.Goals as goal

-- the bytes of one
one : (stored : List ℕ) (all : List TimerState) (k : ℕ) → HoldTimers stored all → k < 256 → part 24 stored k ≡ bytes_of (get_or all k fresh)
one stored all k holds lt = piece bytes_of 24 (λ x. refl) all stored 6144 k fresh holds.bytes (omega (arith, holds.count, lt))

fits : (stored : List ℕ) (all : List TimerState) (k : ℕ) → HoldTimers stored all → k < 256 → IsStoredTimer (get_or all k fresh)
fits stored all k holds lt = All-get_or IsStoredTimer all k fresh (omega (arith, holds.count, lt)) holds.fit

pub timer_piece-requires : goal.timer_piece-requires
timer_piece-requires c =
    let holds = c.requires.1 in
    let size : 24 * 256 ≤ length c.args.bytes.now = long bytes_of 24 (λ x. refl) c.requires.0 c.args.bytes.now 6144 256 holds.bytes holds.count in
    omega (arith, size, c.loop-k-test.true)

pub of_bytes-requires : goal.of_bytes-requires
of_bytes-requires c =
    let bytes = c.args.bytes.now in
    let is = c.timer_piece.ensures ∙ one bytes c.requires.0 c.loop-k.k c.requires.1 c.loop-k-test.true in
    subst (λ (b : List ℕ). IsTimer b) (sym is) (fits bytes c.requires.0 c.loop-k.k c.requires.1 c.loop-k-test.true).form

pub loop-k-preserved : goal.loop-k-preserved
loop-k-preserved c =
    let bytes = c.args.bytes.now in
    let k = c.loop-k.k in
    let timers = c.loop-k.timers in (
      length-set timers k c.of_bytes.result ∙ c.loop-k.invariant.0,
      λ all holds j below.
          let is : c.of_bytes.result ≡ get_or all k fresh =
          c.of_bytes.ensures.value ∙ ap timer_of (c.timer_piece.ensures ∙ one bytes all k holds c.loop-k-test.true) ∙ (fits bytes all k holds c.loop-k-test.true).again in
          set_more timers all k c.of_bytes.result fresh (omega (arith, c.loop-k.invariant.0, c.loop-k-test.true)) (sym is) (c.loop-k.invariant.1 all holds) j below,
    )

pub returns : goal.returns
returns c all holds =
    ext_get_or fresh c.loop-k.timers all (c.loop-k.invariant.0 ∙ sym holds.count)
    (λ j below. c.loop-k.invariant.1 all holds j (omega (arith, below, c.loop-k.invariant.0, c.loop-k-test.false)))
