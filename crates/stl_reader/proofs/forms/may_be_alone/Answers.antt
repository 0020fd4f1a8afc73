use Rattle.std.proofs.Common.{◌∙◌}
use Rattle.std.specs.Prelude.{slice_index}
use Rattle.stl_reader.specs.Forms.{may_be_alone}
use Rattle.stl_reader.specs.Searches.{row_may_be_alone}
use Rattle.stl_reader.proofs.FirstLetters.{mnemonic_alike}
use Rattle.stl_reader.proofs.Searches.{any_like}
use Rattle.stl_reader.proofs.forms.may_be_alone.Goals as goal

pub returns : goal.returns
unfolding may_be_alone
returns c =
    c.any_may_be_alone.ensures
    ∙ any_like (row_may_be_alone c.args.mnemonic) _ _ (slice_index c.args.mnemonic 0) (λ row h. mnemonic_alike c.args.mnemonic row _ h) c.instruction_set.ensures c.numbers_like-numbers.ensures
