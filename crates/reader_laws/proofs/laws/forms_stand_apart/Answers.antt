use Rattle.reader_laws.proofs.Forms.{forms_apart}
use Rattle.reader_laws.proofs.laws.forms_stand_apart.Goals as goal

pub returns : goal.returns
returns c = forms_apart
