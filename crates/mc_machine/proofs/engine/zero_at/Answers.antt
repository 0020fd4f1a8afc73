-- Each byte is 0.
use Rattle.mc_machine.proofs.engine.zero_at.Goals as goal

pub returns : goal.returns
returns c = c.byte_of.ensures
