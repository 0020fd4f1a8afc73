-- The level that runs is changed in the last place.
use Rattle.level_stack.specs.Levels.{left}
use Rattle.level_stack.proofs.Last.{put_last, length-put}
use Rattle.level_stack.proofs.Running.{level_runs}
use Rattle.level_stack.proofs.levels.Levels.leave.Goals as goal

pub returns-clause-left : goal.returns-clause-left
returns-clause-left c =
    put_last left _ _ _ _ _ _ c.as_mut_slice.ensures.value c.len-top.ensures.value c.self.view_is (level_runs _ c.requires) c.leave.ensures

pub returns-clause-levels : goal.returns-clause-levels
returns-clause-levels c = length-put _ _ _ _ _ c.as_mut_slice.ensures.value c.self.view_is
