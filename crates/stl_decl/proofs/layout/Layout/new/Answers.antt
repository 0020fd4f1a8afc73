use Rattle.std.proofs.Common.{◌≡◌, refl, arith, [], subst, sym}
use Rattle.stl_decl.specs.Laid.{AreLaid}
use Rattle.stl_decl.proofs.layout.Layout.new.Goals as goal

pub invariant_of-result : goal.invariant_of-result
unfolding AreLaid
invariant_of-result c = let e : c.new.result ≡ [] = c.new.ensures in (omega arith, subst (λ ns. AreLaid 0 ns 0) (sym e) refl)
