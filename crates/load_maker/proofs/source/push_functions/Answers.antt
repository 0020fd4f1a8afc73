use Rattle.load_maker.specs.Source.{function_lines}
use Rattle.load_maker.proofs.Texts.{one_more, none_left}
use Rattle.load_maker.proofs.source.push_functions.Goals as goal

pub loop-i-preserved : goal.loop-i-preserved
loop-i-preserved c = one_more function_lines _ _ _ _ _ c.loop-i-test.true c.in_ok-push_function.ensures c.loop-i.invariant

pub returns : goal.returns
returns c = none_left function_lines _ _ _ _ c.loop-i-test.false c.loop-i.invariant
