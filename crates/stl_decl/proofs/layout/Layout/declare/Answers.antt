use Rattle.std.proofs.Common.{◌≡◌, ◌∙◌, ◌++◌, ◌∷◌, [], ap, sym, arith}
use Rattle.stl_decl.specs.Places.{Place}
use Rattle.stl_decl.specs.Types.{first_bit, end_bit}
use Rattle.stl_decl.specs.Layout.{Name, Section}
use Rattle.stl_decl.specs.Laid.{AreLaid}
use Rattle.stl_decl.proofs.Laying.{laid_more}
use Rattle.stl_decl.proofs.layout.Layout.declare.Goals as goal

pub invariant_of-self-2 : goal.invariant_of-self-2
invariant_of-self-2 c =
    let d = c.args.declaration in
    let n : Name = record { name = d.name.items; variable = d.variable } in
    let placed : d.variable.first_bit ≡ first_bit d.variable.shape c.self.inside.end = c.requires.placed ∙ ap (λ (s : Section). first_bit d.variable.shape s.end) (sym c.self.view_is) in
    let end : c.end_bit-self-inside.result ≡ end_bit d.variable.shape d.variable.first_bit = c.end_bit-self-inside.ensures.exact ∙ ap (λ (p : Place). end_bit p.shape p.first_bit) c.variable.view_is in
    let laid : AreLaid 0 (c.self.inside.names ++ n ∷ []) (end_bit d.variable.shape d.variable.first_bit) = laid_more 0 c.self.inside.names c.self.inside.end n c.self.invariant.1 placed in
    (omega (arith, c.end_bit-self-inside.ensures.within, c.variable.invariant), rw (c.in_ok-push.ensures.added, end) laid)
