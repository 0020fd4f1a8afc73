-- An organisation block has the bytes of its start information.
use Rattle.mc_machine.proofs.Begun.{ob_begins_with}
use Rattle.mc_machine.proofs.levels.enter_error_ob.Goals as goal

pub returns-clause-local : goal.returns-clause-local
returns-clause-local c =
    ob_begins_with c.enter_block.result _ c.args.program.now _ _ _ c.ob-block.ensures c.in-Some.ensures c.enter_block.ensures.local
