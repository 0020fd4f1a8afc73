-- The level that runs is changed in the last place.
use Rattle.std.proofs.Common.{ap, ◌+◌, ◌∙◌}
use Rattle.std.specs.Prelude.{slice_range}
use Rattle.level_stack.specs.Values.{value_of}
use Rattle.level_stack.specs.Levels.{running_locals, written}
use Rattle.level_stack.proofs.Last.{put_last, length-put}
use Rattle.level_stack.proofs.Running.{block_runs}
use Rattle.level_stack.proofs.ReadBack.{written_reads}
use Rattle.level_stack.proofs.levels.Levels.write_local.Goals as goal

pub returns-clause-written : goal.returns-clause-written
returns-clause-written c =
    put_last (written c.args.at_byte c.args.width c.args.value) _ _ _ _ _ _ c.as_mut_slice.ensures.value c.len-top.ensures.value c.self.view_is (block_runs _ _ _ c.requires.width c.requires.holds) c.write.ensures

pub returns-clause-reads : goal.returns-clause-reads
returns-clause-reads c =
    ap (λ l. value_of (slice_range (running_locals l) c.args.at_byte (c.args.at_byte + c.args.width))) (put_last (written c.args.at_byte c.args.width c.args.value) _ _ _ _ _ _ c.as_mut_slice.ensures.value c.len-top.ensures.value c.self.view_is (block_runs _ _ _ c.requires.width c.requires.holds) c.write.ensures)
    ∙ written_reads c.args.self.now c.args.at_byte c.args.width c.args.value c.requires.width c.requires.fits c.requires.holds

pub returns-clause-levels : goal.returns-clause-levels
returns-clause-levels c = length-put _ _ _ _ _ c.as_mut_slice.ensures.value c.self.view_is
