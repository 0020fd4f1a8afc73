use Rattle.std.proofs.Common.{◌≡◌, ◌+◌, ◌∷◌, get_or, drop, sym, ◌∙◌, arith}
use Rattle.std.specs.Option.{option_map}
use Rattle.std.proofs.lemmas.List.{at_drop_more}
use Rattle.ft_connection.specs.Words.{capped, decimal_value}
use Rattle.ft_connection.proofs.NumberLaws.{one_digit_more}
use Rattle.ft_connection.proofs.words.number_from.Goals as goal

pub loop-digit-preserved : goal.loop-digit-preserved
loop-digit-preserved c =
    let n = c.loop-digit.number in
    let digits = c.args.digits.now in
    let i = c.loop-digit.digit-index in
    let at : option_map capped (decimal_value n (drop i digits)) ≡ option_map capped (decimal_value n (get_or digits i 0 ∷ drop (i + 1) digits)) =
    at_drop_more (λ rest. option_map capped (decimal_value n rest)) digits i 0 (omega arith) in
    let step : option_map capped (decimal_value c.min-number.result (drop (i + 1) digits)) ≡ option_map capped (decimal_value n (get_or digits i 0 ∷ drop (i + 1) digits)) =
    one_digit_more n c.min-number.result (get_or digits i 0) (drop (i + 1) digits) (omega arith) (omega arith) (omega arith) in
    (step ∙ sym at ∙ c.loop-digit.invariant.0, omega arith)
