-- The statement is completed.
use Rattle.std.proofs.Common.{◌+◌}
use Rattle.mc_machine.specs.Places.{Fresh, At}
use Rattle.mc_machine.specs.Meaning.{fails}
use Rattle.mc_machine.specs.EngineView.{level_in, config_of}
use Rattle.mc_machine.proofs.Sound.{turned_since}
use Rattle.mc_machine.proofs.engine.Engine.fail_answered.Goals as goal

pub returns-clause-turned : goal.returns-clause-turned
returns-clause-turned c =
    let here = c.args.self.now in
    let spot = c.args.spot in
    turned_since (fails here.program (At spot.block (spot.at + 1) (level_in spot.level) Fresh) (level_in spot.level) here.memory c.args.error) (config_of here) (config_of c.fail.new.self) here.since 1 here.at c.fail.ensures.failed
