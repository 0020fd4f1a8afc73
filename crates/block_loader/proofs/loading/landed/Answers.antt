use Rattle.std.proofs.Common.{◌∙◌, map}
use Rattle.std.specs.Cmp.Lexicographic.{slice_cmp}
use Rattle.std.specs.Ordering.{nat_cmp}
use Rattle.std.specs.BTreeMap.{get}
use Rattle.block_loader.specs.Faults.{target}
use Rattle.block_loader.proofs.Program.{same_targets}
use Rattle.block_loader.proofs.loading.landed.Goals as goal

pub returns-clause-exact : goal.returns-clause-exact
returns-clause-exact c =
    let names = rw c.labels.ensures at c.in_ok-names.ensures.names in
    let plain = rw c.statements.ensures at c.in_ok-statements.ensures in
    (rw (c.jumps.ensures, plain) at c.set_targets.ensures) ∙ same_targets (get (slice_cmp nat_cmp) c.in_ok-names.names) (target c.args.body.now.labels) names (map (λ s. s.statement) c.args.body.now.statements) c.args.body.now.jumps
