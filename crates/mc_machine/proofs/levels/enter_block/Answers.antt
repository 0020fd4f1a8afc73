-- The level that runs had room for a block more.
use Rattle.mc_machine.proofs.Begun.{is_deeper}
use Rattle.mc_machine.proofs.levels.enter_block.Goals as goal

pub returns-in-Ok-clause-deeper : goal.returns-in-Ok-clause-deeper
returns-in-Ok-clause-deeper c =
    is_deeper c.args.memory.now c.begin_block.new.self c.args.block _ c.in-Ok.ensures.begun c.in-Ok.ensures.few
