use Rattle.std.proofs.Common.{◌≡◌, ◌≤◌, ◌<◌, ◌/◌, ℕ, refl, min}
use Rattle.s5_time.specs.Duration.{unit_millis}
use Rattle.stl_decl.specs.Constants.{timer_start, smallest_base}
use Rattle.stl_decl.proofs.Starts.{smallest_base_is}
use Rattle.stl_decl.proofs.constants.timer_start.Goals as goal

pub returns-in-Some : goal.returns-in-Some
unfolding timer_start
returns-in-Some c =
    let d = c.in-Some.duration in
    let m : ℕ = min c.args.ms 9990000 in
    let u : d.units ≡ m / unit_millis d.base = rw c.min.ensures at c.in-Some.ensures.units in
    let f : m / unit_millis d.base ≤ 999 = rw u at c.in-Some.ensures.fits in
    let s : (b : ℕ) → b < d.base → 999 < m / unit_millis b = rw c.min.ensures at c.in-Some.ensures.smallest in
    let b : d.base ≡ smallest_base m = smallest_base_is m d.base c.in-Some.ensures.known f s in
    rw (c.write.ensures.word, u, b) refl
