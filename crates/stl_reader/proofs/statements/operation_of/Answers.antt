use Rattle.std.proofs.Common.{◌∙◌, ap}
use Rattle.std.specs.Prelude.{slice_index, slice_get}
use Rattle.std.specs.List.{find}
use Rattle.s7_base.specs.declared.statement.Statement.{Statement}
use Rattle.stl_reader.specs.Statements.{operation_of, stored}
use Rattle.stl_reader.specs.Letters.{passes}
use Rattle.stl_reader.specs.Searches.{row_allows}
use Rattle.stl_reader.proofs.FirstLetters.{mnemonic_alike}
use Rattle.stl_reader.proofs.Searches.{position_like}
use Rattle.stl_reader.proofs.statements.operation_of.Goals as goal

pub returns : goal.returns
unfolding operation_of
returns c =
    c.number_allowing.ensures
    ∙ ap (λ (s : Statement). find (λ n. passes (row_allows c.args.mnemonic c.args.locals s) (slice_get c.instruction_set.result.now n)) c.numbers_like-numbers.result.now) c.stored-statement.ensures
    ∙ position_like (row_allows c.args.mnemonic c.args.locals (stored 0 c.args.operand)) _ _ (slice_index c.args.mnemonic 0) (λ row h. mnemonic_alike c.args.mnemonic row _ h) c.instruction_set.ensures c.numbers_like-numbers.ensures
