use Rattle.std.proofs.Common.{subst}
use Rattle.stl_decl.specs.Layout.{Section}
use Rattle.stl_decl.specs.Laid.{AreLaid}
use Rattle.stl_decl.proofs.Laying.{are_apart, are_aligned}
use Rattle.stl_decl.proofs.layout.Layout.names.Goals as goal

pub returns-clause-apart : goal.returns-clause-apart
returns-clause-apart c =
    are_apart 0 c.args.self.now.names c.args.self.now.end (subst (λ (s : Section). AreLaid 0 s.names s.end) c.self.view_is c.self.invariant.1)

pub returns-clause-aligned : goal.returns-clause-aligned
returns-clause-aligned c =
    are_aligned 0 c.args.self.now.names c.args.self.now.end (subst (λ (s : Section). AreLaid 0 s.names s.end) c.self.view_is c.self.invariant.1)
