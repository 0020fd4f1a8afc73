-- Each turn keeps what the machine stands for.
use Rattle.std.proofs.Common.{◌≡◌, None}
use Rattle.mc_machine.specs.Stands.{IsSound, Keeps, turns_left}
use Rattle.mc_machine.specs.EngineView.{config_of, IsStored}
use Rattle.mc_machine.proofs.engine.Engine.run_on.Given as goal

abbrev pub invariant-turns : goal.invariant-turns
invariant-turns l = record {
  sound : IsSound (config_of l.self);
  stored : IsStored l.self;
  ready : l.self.waits ≡ None;
  keeps : Keeps (config_of l.initial.self) (config_of l.self);
}

abbrev pub decreases-turns : goal.decreases-turns
decreases-turns l = turns_left (config_of l.self)
