use Rattle.std.proofs.Common.{◌≡◌, ℕ, List, length, sym, ◌∙◌, ap}
use Rattle.std.specs.Prelude.{nat_lt}
use Rattle.plant_script.specs.Numbers.{value_of, value_from, significant, comes_before}
use Rattle.plant_script.proofs.Digits.{decides, length_decides, same_value, still_digits}
use Rattle.plant_script.proofs.numbers.is_below.Goals as goal

pub returns-then-digits-others : goal.returns-then-digits-others
unfolding value_of
returns-then-digits-others c =
    let one : c.significant-digits.result.now ≡ significant c.args.digits.now = c.significant-digits.ensures in
    let two : c.significant-others.result.now ≡ significant c.args.others.now = c.significant-others.ensures in
    rw (one, two) (length_decides c.args.digits.now c.args.others.now c.requires.digits c.requires.others
    (λ same. c.if-digits-others.true (ap (λ (l : List ℕ). length l) one ∙ same ∙ ap (λ (l : List ℕ). length l) (sym two))))

pub returns : goal.returns
unfolding value_of
returns c =
    let one : c.significant-digits.result.now ≡ significant c.args.digits.now = c.significant-digits.ensures in
    let two : c.significant-others.result.now ≡ significant c.args.others.now = c.significant-others.ensures in
    let same : length (significant c.args.digits.now) ≡ length (significant c.args.others.now) = ap (λ (l : List ℕ). length l) (sym one) ∙ c.if-digits-others.false ∙ ap (λ (l : List ℕ). length l) two in
    let before : c.comes_before.result ≡ comes_before (significant c.args.digits.now) (significant c.args.others.now) = rw (one, two) at c.comes_before.ensures in
    before ∙ decides (significant c.args.digits.now) (significant c.args.others.now) same (still_digits c.args.digits.now c.requires.digits) (still_digits c.args.others.now c.requires.others)
    ∙ ap (λ n. nat_lt n (value_from 0 (significant c.args.others.now))) (same_value c.args.digits.now)
    ∙ ap (λ n. nat_lt (value_from 0 c.args.digits.now) n) (same_value c.args.others.now)
