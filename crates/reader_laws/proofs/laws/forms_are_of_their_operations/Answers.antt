use Rattle.std.proofs.Common.{refl}
use Rattle.reader_laws.proofs.laws.forms_are_of_their_operations.Goals as goal

pub returns : goal.returns
returns c = record { taken = refl; allowed = refl }
