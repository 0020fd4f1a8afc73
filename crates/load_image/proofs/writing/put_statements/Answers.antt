use Rattle.load_image.proofs.Steps.{statements_next}
use Rattle.load_image.proofs.writing.put_statements.Goals as goal

pub loop-s-preserved : goal.loop-s-preserved
loop-s-preserved c =
    statements_next c.args.out.now.items c.loop-s.out.items c.put_statement.new.out.items c.args.statements.now c.loop-s.s-index _ c.loop-s-test.true c.in_ok-put_statement.ensures.bytes c.put_statement.ensures.fits c.loop-s.invariant
