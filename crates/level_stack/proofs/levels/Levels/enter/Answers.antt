-- The level that runs is changed in the last place.
use Rattle.level_stack.specs.Levels.{entered}
use Rattle.level_stack.proofs.Last.{put_last_ok, length-put}
use Rattle.level_stack.proofs.levels.Levels.enter.Goals as goal

pub returns-clause-entered : goal.returns-clause-entered
returns-clause-entered c =
    put_last_ok c.enter.result (entered c.args.block c.args.temp) _ _ _ _ _ _ c.as_mut_slice.ensures.value c.len-top.ensures.value c.self.view_is c.requires c.enter.ensures.entered

pub returns-clause-levels : goal.returns-clause-levels
returns-clause-levels c = length-put _ _ _ _ _ c.as_mut_slice.ensures.value c.self.view_is
