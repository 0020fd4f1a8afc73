-- A block begins one frame higher.
use Rattle.std.proofs.Common.{◌+◌, ◌<◌, length, ap, arith}
use Rattle.mc_machine.specs.Places.{At, Fresh}
use Rattle.mc_machine.specs.EngineView.{level_in, frame_of, config_of}
use Rattle.mc_machine.proofs.Sound.{push_sound}
use Rattle.mc_machine.proofs.Stored.{frames_push, indexed_push}
use Rattle.mc_machine.proofs.engine.Engine.begin.Goals as goal

pub returns-clause-moved : goal.returns-clause-moved
returns-clause-moved c =
    ap (λ fs. record (config_of c.args.self.now) { place = At c.args.block 0 (level_in c.args.level) Fresh; frames = fs }) (frames_push _ _ c.args.frame c.push.ensures.items)

pub returns-clause-sound : goal.returns-clause-sound
returns-clause-sound c =
    let some : 0 < length (config_of c.args.self.now).frames + 1 = omega arith in
    push_sound (config_of c.args.self.now) _ (frame_of c.args.frame) (frames_push _ _ c.args.frame c.push.ensures.items) c.requires.stacked c.requires.under some c.requires.begun

pub returns-clause-stored : goal.returns-clause-stored
returns-clause-stored c = record {
  here = c.find-code.ensures c.args.self.now.program.codes c.requires.found;
  later = indexed_push c.args.self.now.program _ _ c.args.frame c.push.ensures.items c.requires.frames c.requires.indexed;
  decoded = c.requires.decoded;
  found = c.requires.found;
}
