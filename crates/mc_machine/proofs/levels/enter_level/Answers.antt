-- The registers are no part of the levels.
use Rattle.std.proofs.Common.{◌+◌, ◌<◌, length, subst, sym}
use Rattle.statement_effects.specs.State.{Memory}
use Rattle.mc_machine.specs.Stands.{AreBegun, rank_of}
use Rattle.mc_machine.proofs.Interrupting.{level_begins}
use Rattle.mc_machine.proofs.levels.enter_level.Goals as goal

pub returns-in-Ok-clause-begun : goal.returns-in-Ok-clause-begun
returns-in-Ok-clause-begun c n begun =
    let room = subst (λ p. length c.args.memory.now.levels < rank_of p) (sym c.priority.ensures) c.requires.room in
    let is = level_begins c.args.memory.now c.begin_level.new.self c.priority.result c.ob.result c.args.bytes room c.in-Ok.ensures.begun n begun in
    (subst (λ (m : Memory). AreBegun (n + 1) m.levels) (sym c.set_registers.ensures) is.0, is.1)
