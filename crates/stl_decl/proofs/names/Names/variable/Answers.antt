use Rattle.std.proofs.Common.{◌≡◌, ◌∙◌, ◌<◌, ap, sym, subst, map, rules}
use Rattle.std.specs.Prelude.{Some, None}
use Rattle.stl_decl.specs.Layout.{named, place_of, variable_among}
use Rattle.stl_decl.proofs.Found.{found, found_within, not_found}
use Rattle.stl_decl.proofs.names.Names.variable.Goals as goal

pub index-requires : goal.index-requires
index-requires c =
    let place : place_of (map named c.self.inside.list.items) c.args.name.now ≡ Some c.in-Some.place.now = sym (c.self.invariant c.args.name.now) ∙ sym c.in-Some.ensures.value in
    subst (λ n. c.in-Some.place.now < n) (search rules) (found_within c.self.inside.list.items c.args.name.now c.in-Some.place.now place)

pub returns-in-Some : goal.returns-in-Some
returns-in-Some c =
    let place : place_of (map named c.self.inside.list.items) c.args.name.now ≡ Some c.in-Some.place.now = sym (c.self.invariant c.args.name.now) ∙ sym c.in-Some.ensures.value in
    ap (λ d. Some d.variable) c.index.ensures ∙ sym (found c.self.inside.list.items c.args.name.now c.in-Some.place.now c.index.result.now place).1
    ∙ ap (λ ns. variable_among ns c.args.name.now) c.self.view_is

pub returns-in-None : goal.returns-in-None
returns-in-None c =
    let place : place_of (map named c.self.inside.list.items) c.args.name.now ≡ None = sym (c.self.invariant c.args.name.now) ∙ sym c.in-None.ensures.value in
    sym (not_found (map named c.self.inside.list.items) c.args.name.now place) ∙ ap (λ ns. variable_among ns c.args.name.now) c.self.view_is
