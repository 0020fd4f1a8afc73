use Rattle.load_maker.specs.Script.{hundred_lines}
use Rattle.load_maker.proofs.Texts.{one_more, none_left}
use Rattle.load_maker.proofs.script.push_moments.Goals as goal

pub loop-k-preserved : goal.loop-k-preserved
loop-k-preserved c = one_more (hundred_lines c.args.n) _ _ _ _ _ c.loop-k-test.true c.in_ok-push_moment.ensures c.loop-k.invariant

pub returns : goal.returns
returns c = none_left (hundred_lines c.args.n) _ _ _ _ c.loop-k-test.false c.loop-k.invariant
