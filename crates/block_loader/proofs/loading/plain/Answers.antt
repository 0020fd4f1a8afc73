use Rattle.std.proofs.Common.{arith}
use Rattle.block_loader.proofs.Program.{mapped_more, mapped_done, no_statement_there}
use Rattle.block_loader.proofs.loading.plain.Goals as goal

pub loop-line-preserved : goal.loop-line-preserved
loop-line-preserved c = mapped_more (λ s. s.statement) c.args.statements.now c.loop-line.line-index c.loop-line.all.items c.push.new.self.items no_statement_there (omega arith) c.in_ok-push.ensures.items c.loop-line.invariant

pub returns : goal.returns
returns c = mapped_done (λ s. s.statement) c.args.statements.now c.loop-line.line-index c.loop-line.all.items (omega arith) c.loop-line.invariant
