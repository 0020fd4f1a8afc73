use Rattle.std.proofs.Common.{◌≡◌, take, map}
use Rattle.block_loader.proofs.loading.plain.Given as goal

abbrev pub invariant-loop-line : goal.invariant-loop-line
invariant-loop-line l = l.all.items ≡ map (λ s. s.statement) (take l.line-index l.statements)
