-- There is a frame left where a block has begun.
use Rattle.std.proofs.Common.{length}
use Rattle.mc_machine.specs.EngineView.{config_of}
use Rattle.mc_machine.proofs.engine.Engine.fail.Goals as goal

pub begin_error_ob-requires-clause-room : goal.begin_error_ob-requires-clause-room
begin_error_ob-requires-clause-room c = (c.in-Ok.ensures.deeper (length (config_of c.args.self.now).frames) c.requires.sound.begun c.requires.here).1

pub begin_error_ob-requires-clause-begun : goal.begin_error_ob-requires-clause-begun
begin_error_ob-requires-clause-begun c = (c.in-Ok.ensures.deeper (length (config_of c.args.self.now).frames) c.requires.sound.begun c.requires.here).0
