use Rattle.reader_laws.proofs.Bounds.{never_met}
use Rattle.reader_laws.proofs.laws.bounds_are_never_met.Goals as goal

pub returns : goal.returns
returns c = never_met
