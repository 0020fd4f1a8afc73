use Rattle.std.proofs.Common.{◌∙◌, ap}
use Rattle.std.specs.Prelude.{slice_index}
use Rattle.stl_reader.specs.Mnemonics.{row_named}
use Rattle.stl_reader.specs.Letters.{numbers_like, read_at}
use Rattle.stl_reader.specs.Searches.{row_spells}
use Rattle.stl_reader.proofs.FirstLetters.{word_alike}
use Rattle.stl_reader.proofs.Searches.{row_like}
use Rattle.stl_reader.proofs.mnemonics.row_named.Goals as goal

pub returns : goal.returns
unfolding row_named
returns c =
    c.read_at.ensures
    ∙ ap (read_at c.instruction_set-rows.result.now) c.number_named-number.ensures
    ∙ row_like (row_spells c.args.word.now) _ _ (slice_index c.args.word.now 0) (word_alike c.args.word.now) c.instruction_set-rows.ensures (c.numbers_like.ensures ∙ ap numbers_like c.first_letter.ensures)
