use Rattle.std.proofs.Common.{◌∙◌}
use Rattle.std.specs.Prelude.{slice_index}
use Rattle.stl_reader.specs.Forms.{accepts}
use Rattle.stl_reader.specs.Searches.{row_accepts}
use Rattle.stl_reader.proofs.FirstLetters.{mnemonic_alike}
use Rattle.stl_reader.proofs.Searches.{any_like}
use Rattle.stl_reader.proofs.forms.accepts.Goals as goal

pub returns : goal.returns
unfolding accepts
returns c =
    c.any_accepts.ensures
    ∙ any_like (row_accepts c.args.mnemonic c.args.form) _ _ (slice_index c.args.mnemonic 0) (λ row h. mnemonic_alike c.args.mnemonic row _ h) c.instruction_set.ensures c.numbers_like-numbers.ensures
