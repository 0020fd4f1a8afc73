-- Neither the inputs nor the registers are part of the levels.
use Rattle.std.proofs.Common.{ap, ◌∙◌}
use Rattle.statement_effects.specs.State.{Memory}
use Rattle.mc_machine.specs.EngineView.{config_of}
use Rattle.mc_machine.proofs.Sound.{no_level_at_inputs}
use Rattle.mc_machine.proofs.engine.Engine.begin_main.Goals as goal

pub enter_main-requires-clause-idle : goal.enter_main-requires-clause-idle
enter_main-requires-clause-idle c =
    ap (λ (m : Memory). m.levels) c.set_registers.ensures ∙ ap (λ (m : Memory). m.levels) c.set_inputs.ensures
    ∙ no_level_at_inputs (config_of c.args.self.now) c.requires.here c.requires.sound
