use Rattle.std.proofs.Common.{rules, ◌≡◌}
use Rattle.std.specs.List.{each_same}
use Rattle.stl_decl.proofs.Found.{still_found}
use Rattle.stl_decl.proofs.names.Names.push.Goals as goal

pub invariant_of-self-in-Ok : goal.invariant_of-self-in-Ok
invariant_of-self-in-Ok c =
    let same : c.in_ok-key.key.items ≡ c.args.added.name.items = search (rules, each_same) in
    still_found c.self.inside.list.items c.push.new.self.items c.args.added c.self.inside.places.entries c.insert.new.self.entries c.in_ok-key.key c.len-place.result same (search rules) c.self.invariant (search rules) c.in-Ok.ensures.entries (search rules)
