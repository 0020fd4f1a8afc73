-- Behind the first bytes there are only bytes 0.
use Rattle.std.proofs.Common.{sym, refl, ◌∙◌, replicate}
use Rattle.mc_machine.specs.Stands.{register_head}
use Rattle.mc_machine.specs.EngineView.{config_of}
use Rattle.mc_machine.proofs.AreaBytes.{back_byte}
use Rattle.mc_machine.proofs.engine.Engine.register_byte.Goals as goal

pub returns : goal.returns
returns c =
    c.zero_at.ensures ∙ sym (back_byte (register_head (config_of c.args.self.now)) (replicate 232 0) c.args.at refl c.if-at-lt24.false)
