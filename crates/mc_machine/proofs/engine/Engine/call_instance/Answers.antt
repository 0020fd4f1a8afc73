-- There is a frame left where a block has begun.
use Rattle.std.proofs.Common.{length}
use Rattle.mc_machine.specs.EngineView.{config_of}
use Rattle.mc_machine.proofs.engine.Engine.call_instance.Goals as goal

pub begin_called-requires-clause-room : goal.begin_called-requires-clause-room
begin_called-requires-clause-room c = (c.in-Ok.ensures.deeper (length (config_of c.args.self.now).frames) c.requires.sound.begun c.requires.here).1

pub begin_called-requires-clause-begun : goal.begin_called-requires-clause-begun
begin_called-requires-clause-begun c = (c.in-Ok.ensures.deeper (length (config_of c.args.self.now).frames) c.requires.sound.begun c.requires.here).0
