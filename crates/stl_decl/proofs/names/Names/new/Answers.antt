use Rattle.stl_decl.proofs.Found.{nothing_found}
use Rattle.stl_decl.proofs.names.Names.new.Goals as goal

pub invariant_of-result : goal.invariant_of-result
invariant_of-result c = nothing_found c.new-2.result.entries c.new.result.items c.new-2.ensures.empty c.new.ensures.items
