use Rattle.std.proofs.Common.{refl}
use Rattle.std.specs.Fmt.{digits}
use Rattle.text_tests.proofs.printed.the_definitions_write_what_no_cpu_has_yet.Goals as goal

pub returns-clause-notes : goal.returns-clause-notes
unfolding digits
returns-clause-notes c = refl

pub returns-clause-blocks : goal.returns-clause-blocks
unfolding digits
returns-clause-blocks c = refl
