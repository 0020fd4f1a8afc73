use Rattle.stl_decl.proofs.Loops.{same_initials, same_declaration, same_section, same_temporaries, same_structure, same_assignments}
use Rattle.stl_decl.proofs.laws.more_turns_read_the_same.Goals as goal

pub returns : goal.returns
returns c = record {
  initials = same_initials;
  declaration = same_declaration;
  section = same_section;
  temporaries = same_temporaries;
  structure = same_structure;
  assignments = same_assignments;
}
