use Rattle.std.proofs.Common.{◌≡◌, ◌<◌, ◌+◌, ◌*◌, ◌^◌, ◌∷◌, drop, get_or, add-one, drop-cons, None, eqb, eq-eqb, true, length, refl, List, ℕ, sym, ap, ◌∙◌, arith}
use Rattle.plant_script.specs.Numbers.{hex_from, hex_of}
use Rattle.plant_script.proofs.Values.{hex_fits, hex_more, hex_step, hex_stops}
use Rattle.plant_script.proofs.numbers.hex_of.Goals as goal

pub overflow_mul-value : goal.overflow_mul-value
overflow_mul-value c =
    let fits : c.loop-digit.value * 16 + 0 < 2 ^ 32 = hex_fits c.loop-digit.digit-index c.loop-digit.value 0 (omega arith) c.loop-digit.invariant.within (omega arith) in
    omega arith

pub overflow_add-value : goal.overflow_add-value
overflow_add-value c =
    let small : c.in_ok-low.low < 16 = c.in_ok-low.ensures.small in
    let fits : c.loop-digit.value * 16 + c.in_ok-low.low < 2 ^ 32 = hex_fits c.loop-digit.digit-index c.loop-digit.value c.in_ok-low.low (omega arith) c.loop-digit.invariant.within small in
    omega arith

pub loop-digit-preserved : goal.loop-digit-preserved
loop-digit-preserved c =
    let i = c.loop-digit.digit-index in
    let here : drop i c.args.word.now ≡ get_or c.args.word.now i 0 ∷ drop (i + 1) c.args.word.now = rw add-one (drop-cons c.args.word.now i 0 c.loop-digit-test.true) in
    let small : c.in_ok-low.low < 16 = c.in_ok-low.ensures.small in
    record {
      same = rw c.from.ensures (hex_step c.loop-digit.value (get_or c.args.word.now i 0) c.in_ok-low.low (drop (i + 1) c.args.word.now) (sym c.in_ok-low.ensures.exact)
          ∙ ap (λ (ds : List ℕ). hex_from c.loop-digit.value ds) (sym here) ∙ c.loop-digit.invariant.same);
      within = rw c.from.ensures (hex_more i c.loop-digit.value c.in_ok-low.low c.loop-digit.invariant.within small);
    }

pub returns-in_err-low-clause-exact : goal.returns-in_err-low-clause-exact
unfolding hex_of
returns-in_err-low-clause-exact c =
    let i = c.loop-digit.digit-index in
    let here : drop i c.args.word.now ≡ get_or c.args.word.now i 0 ∷ drop (i + 1) c.args.word.now = rw add-one (drop-cons c.args.word.now i 0 c.loop-digit-test.true) in
    let none : hex_from 0 c.args.word.now ≡ None =
    sym c.loop-digit.invariant.same ∙ ap (λ (ds : List ℕ). hex_from c.loop-digit.value ds) here
    ∙ hex_stops c.loop-digit.value (get_or c.args.word.now i 0) (drop (i + 1) c.args.word.now) (sym c.in_err-low.ensures.exact) in
    let fits : eqb (length c.args.word.now) c.args.count ≡ true = eq-eqb (length c.args.word.now) c.args.count c.if-word-count.false in
    c.from_residual.ensures ∙ sym (rw (fits, none) refl)
