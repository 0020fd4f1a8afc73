use Rattle.std.proofs.Common.{◌≡◌, ◌+◌, ◌-◌, ◌*◌, ◌∷◌, drop, get_or, min, arith, ◌∙◌, ap, sym, add-one, drop-cons}
use Rattle.plant_script.specs.Numbers.{value_from}
use Rattle.plant_script.specs.declared.numbers.TheConstants.{CEILING}
use Rattle.plant_script.proofs.Values.{cut_value}
use Rattle.plant_script.proofs.numbers.value_of.Goals as goal

pub loop-digit-preserved : goal.loop-digit-preserved
loop-digit-preserved c =
    let h = c.loop-digit-test.true in
    let i = c.loop-digit.digit-index in
    let digits = c.args.digits.now in
    let here : drop i digits ≡ get_or digits i 0 ∷ drop (i + 1) digits = rw add-one (drop-cons digits i 0 h) in
    let value : c.min-value.result ≡ min (c.loop-digit.value * 10 + (get_or digits i 0 - 48)) CEILING = omega arith in
    record {
      same = cut_value (c.loop-digit.value * 10 + (get_or digits i 0 - 48)) c.min-value.result CEILING (drop (i + 1) digits) value
          ∙ sym (ap (λ ds. min (value_from c.loop-digit.value ds) CEILING) here)
          ∙ c.loop-digit.invariant.same;
      within = omega arith;
    }
