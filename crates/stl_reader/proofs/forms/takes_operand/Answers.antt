use Rattle.std.proofs.Common.{◌∙◌}
use Rattle.std.specs.Prelude.{slice_index}
use Rattle.stl_reader.specs.Forms.{takes_operand}
use Rattle.stl_reader.specs.Searches.{row_takes_operand}
use Rattle.stl_reader.proofs.FirstLetters.{mnemonic_alike}
use Rattle.stl_reader.proofs.Searches.{any_like}
use Rattle.stl_reader.proofs.forms.takes_operand.Goals as goal

pub returns : goal.returns
unfolding takes_operand
returns c =
    c.any_takes_operand.ensures
    ∙ any_like (row_takes_operand c.args.mnemonic) _ _ (slice_index c.args.mnemonic 0) (λ row h. mnemonic_alike c.args.mnemonic row _ h) c.instruction_set.ensures c.numbers_like-numbers.ensures
