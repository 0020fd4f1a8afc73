-- Every value lies in four bytes.
use Rattle.std.proofs.Common.{◌≡◌, ℕ, ◌^◌, ◌*◌, ◌<◌, ◌≤◌, true, nat_lt, sym, arith}
use Rattle.std.proofs.Math.Pow.{pow_mono}
use Rattle.std.proofs.lemmas.Bool.{lt-ltb}
use Rattle.s7_events.proofs.fitting.lies_in.Goals as goal

wide : (value width : ℕ) → value < 2 ^ 32 → 4 ≤ width → nat_lt value (2 ^ (8 * width)) ≡ true
wide value width fits enough =
    let above : 32 ≤ 8 * width = omega arith in
    let most : 2 ^ 32 ≤ 2 ^ (8 * width) = pow_mono above in
    lt-ltb value (2 ^ (8 * width)) (omega (arith, most))

pub returns-in_default : goal.returns-in_default
returns-in_default c = sym (wide c.args.value c.args.width (omega arith) (omega arith))
