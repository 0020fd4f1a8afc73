-- The level that runs is changed in the last place.
use Rattle.std.proofs.Common.{ap, ◌∙◌}
use Rattle.level_stack.specs.Levels.{block_counts, started}
use Rattle.level_stack.proofs.Last.{put_last}
use Rattle.level_stack.proofs.Running.{informed_runs}
use Rattle.level_stack.proofs.Counts.{started_counts}
use Rattle.level_stack.proofs.levels.Levels.write_start.Goals as goal

pub returns-clause-started : goal.returns-clause-started
returns-clause-started c =
    put_last (started c.args.bytes.now) _ _ _ _ _ _ c.as_mut_slice.ensures.value c.len-top.ensures.value c.self.view_is (informed_runs _ c.requires) c.write_start.ensures

pub returns-clause-blocks : goal.returns-clause-blocks
returns-clause-blocks c =
    ap block_counts (put_last (started c.args.bytes.now) _ _ _ _ _ _ c.as_mut_slice.ensures.value c.len-top.ensures.value c.self.view_is (informed_runs _ c.requires) c.write_start.ensures)
    ∙ started_counts c.args.self.now c.args.bytes.now
