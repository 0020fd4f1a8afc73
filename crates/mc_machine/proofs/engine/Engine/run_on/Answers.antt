-- A turn keeps what the machine stands for.
use Rattle.std.proofs.Common.{rules}
use Rattle.mc_machine.specs.EngineView.{config_of}
use Rattle.mc_machine.proofs.Keeps.{keeps_on}
use Rattle.mc_machine.proofs.engine.Engine.run_on.Goals as goal

pub returns-in-Some-clause-keeps : goal.returns-in-Some-clause-keeps
returns-in-Some-clause-keeps c =
    keeps_on (config_of c.args.self.now) (config_of c.turns.self) (config_of c.step.new.self) c.step.new.self.waits c.turns.invariant.keeps c.step.ensures.turned

pub turns-preserved : goal.turns-preserved
turns-preserved c = record {
  sound = c.step.ensures.sound;
  stored = c.step.ensures.stored;
  ready = search rules;
  keeps = keeps_on (config_of c.args.self.now) (config_of c.turns.self) (config_of c.step.new.self) c.step.new.self.waits c.turns.invariant.keeps c.step.ensures.turned;
}
