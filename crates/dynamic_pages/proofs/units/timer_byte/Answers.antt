-- The byte is that of its timer, which lies at a multiple of 24.
use Rattle.std.proofs.Common.{◌≡◌, ◌+◌, ◌*◌, ◌/◌, ◌%◌, ◌<◌, ◌≤◌, get_or, length, refl, sym, ap, ◌∙◌, arith, rules}
use Rattle.std.proofs.lemmas.List.{get_or_past}
use Rattle.timers.specs.Bytes.{bytes_of}
use Rattle.dynamic_pages.specs.Pages.{timer_bytes}
use Rattle.dynamic_pages.proofs.Laid.{laid_length, there}
use Rattle.dynamic_pages.proofs.units.timer_byte.Goals as goal

pub returns-in-Some : goal.returns-in-Some
returns-in-Some c =
    let at = c.args.at in
    let all = c.args.timers.now in
    let one = c.in-Some.timer.now in
    let parts : at ≡ 24 * (at / 24) + at % 24 = omega arith in
    let within : at / 24 < length all = search rules in
    let is : get_or all (at / 24) one ≡ one = search rules in
    let bytes : c.to_bytes.result ≡ bytes_of one = c.to_bytes.ensures.bytes in
    ap (λ b. get_or b (at % 24) 0) (bytes ∙ ap bytes_of (sym is))
    ∙ sym (there bytes_of 24 (λ x. refl) all at (at / 24) (at % 24) one parts within (omega arith))

pub returns-in-None : goal.returns-in-None
returns-in-None c =
    let at = c.args.at in
    let all = c.args.timers.now in
    let past : length all * 24 ≤ at = search rules in
    sym (get_or_past (timer_bytes all) at 0 (omega (arith, past, laid_length bytes_of 24 (λ x. refl) all)))
