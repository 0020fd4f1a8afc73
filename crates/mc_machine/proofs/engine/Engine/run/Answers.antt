-- A turn in a block is a turn of its place.
use Rattle.std.proofs.Common.{sym, ◌∙◌}
use Rattle.mc_machine.specs.EngineView.{level_in, config_of}
use Rattle.mc_machine.proofs.Sound.{run_follows, run_ticks, sound_after}
use Rattle.mc_machine.proofs.Stored.{decoded_found}
use Rattle.mc_machine.proofs.engine.Engine.run.Goals as goal

pub returns-then-self-ge256-clause-turned : goal.returns-then-self-ge256-clause-turned
returns-then-self-ge256-clause-turned c =
    let spot = c.args.spot in
    let engine = c.args.self.now in
    let found = decoded_found engine.program c.deref.result.now spot.code spot.at spot.block (c.deref.ensures.value ∙ c.requires.stored.decoded) c.requires.code in
    run_ticks (config_of engine) (config_of c.wait_in_block.new.self) spot.block spot.at (level_in spot.level) c.in-Some.statement.now c.wait_in_block.new.self.waits c.wait_in_block.ensures.waits c.wait_in_block.ensures.same c.requires.here (sym found ∙ sym c.in-Some.ensures.found) c.if-self-ge256.true

pub follow-requires-clause-sound : goal.follow-requires-clause-sound
follow-requires-clause-sound c =
    sound_after (config_of c.args.self.now) c.perform-flow.new.self c.perform-flow.ensures.blocks c.requires.sound

pub returns-clause-turned : goal.returns-clause-turned
returns-clause-turned c =
    let spot = c.args.spot in
    let engine = c.args.self.now in
    let found = decoded_found engine.program c.deref.result.now spot.code spot.at spot.block (c.deref.ensures.value ∙ c.requires.stored.decoded) c.requires.code in
    run_follows (config_of engine) (config_of c.follow.new.self) spot.block spot.at (level_in spot.level) c.in-Some.statement.now c.perform-flow.new.self c.perform-flow.result c.follow.new.self.waits c.requires.here (sym found ∙ sym c.in-Some.ensures.found) c.if-self-ge256.false c.perform-flow.ensures.effect c.perform-flow.ensures.asks c.follow.ensures.turned
