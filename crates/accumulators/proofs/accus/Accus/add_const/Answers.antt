use Rattle.std.proofs.Common.{◌≡◌, ◌∙◌, rules}
use Rattle.std.specs.Prelude.{FitsSigned}
use Rattle.std.specs.Int.{w32}
use Rattle.std.proofs.lemmas.Int.{to_z-of_z}
use Rattle.accumulators.proofs.Wide.{sum_in_64}
use Rattle.accumulators.proofs.accus.Accus.add_const.Goals as goal

pub returns : goal.returns
returns c =
    let value : c.from.result ≡ c.args.value = c.from.ensures ∙ to_z-of_z w32 c.args.value c.ranges.value
    in let fits : FitsSigned w32 c.from.result = search rules
    in let sum = sum_in_64 c.number.result c.from.result c.number.ensures.range fits
    in cc
