-- The registers of a block are no part of the levels.
use Rattle.std.proofs.Common.{◌+◌, length, subst, sym}
use Rattle.statement_effects.specs.State.{Memory}
use Rattle.mc_machine.specs.Stands.{AreBegun}
use Rattle.mc_machine.specs.EngineView.{config_of}
use Rattle.mc_machine.proofs.engine.Engine.begin_error_ob.Goals as goal

pub begin_organisation_block-requires-clause-begun : goal.begin_organisation_block-requires-clause-begun
begin_organisation_block-requires-clause-begun c =
    subst (λ (m : Memory). AreBegun (length (config_of c.args.self.now).frames + 1) m.levels) (sym c.set_registers.ensures) c.requires.begun
