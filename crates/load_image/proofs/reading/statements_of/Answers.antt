use Rattle.std.proofs.Common.{arith}
use Rattle.load_image.specs.Reading.{statements_in}
use Rattle.load_image.proofs.Steps.{statements_go_on, statements_done}
use Rattle.load_image.proofs.reading.statements_of.Goals as goal

pub loop-preserved : goal.loop-preserved
loop-preserved c = (
  statements_go_on c.loop.statements.items c.push.new.self.items c.args.count c.loop.counter c.loop.rest.now c.split_at.result.1.now c.first_statement_of-s.result (statements_in c.args.count c.args.body.now) c.loop-test.true c.in_ok-push.ensures.items c.first_statement_of-s.ensures c.split_at.ensures.back c.loop.invariant.0,
  omega (arith, c.loop.invariant.1, c.loop-test.true, c.split_at.ensures.back_len),
)

pub returns : goal.returns
returns c = statements_done c.loop.statements.items c.args.count c.loop.counter c.loop.rest.now (statements_in c.args.count c.args.body.now) c.loop-test.false c.loop.invariant.0
