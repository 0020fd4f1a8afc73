-- The first bytes of 256 that are 0.
use Rattle.std.proofs.Common.{ℕ, take, replicate, ap, ◌∙◌}
use Rattle.std.proofs.lemmas.List.{take-replicate}
use Rattle.level_stack.proofs.level.zeros.Goals as goal

pub returns : goal.returns
returns c =
    ap (λ n. take n (replicate {A = ℕ} 256 0)) c.from.ensures ∙ take-replicate c.args.count 256 0 c.requires
