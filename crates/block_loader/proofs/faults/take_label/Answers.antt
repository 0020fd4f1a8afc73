use Rattle.std.proofs.Common.{sym, ◌∙◌, ap, cond}
use Rattle.std.specs.Prelude.{Some}
use Rattle.std.specs.Cmp.Lexicographic.{slice_cmp}
use Rattle.std.specs.Ordering.{nat_cmp}
use Rattle.std.specs.BTreeMap.{get}
use Rattle.block_loader.proofs.Names.{inserted, same_name}
use Rattle.block_loader.proofs.faults.take_label.Goals as goal

pub returns-in_ok-insert-clause-names : goal.returns-in_ok-insert-clause-names
returns-in_ok-insert-clause-names c =
    inserted (get (slice_cmp nat_cmp) c.args.names.now) (get (slice_cmp nat_cmp) c.insert.new.self) c.args.label (λ q. c.in_ok-insert.ensures.updates.0 q ∙ ap (λ b. cond b (Some c.args.label.statement) (get (slice_cmp nat_cmp) c.args.names.now q)) (same_name c.args.label.name q)) (sym c.contains_key.ensures ∙ c.if-contains_key.false)
