-- The frames that are left are as high as they were.
use Rattle.std.proofs.Common.{map, refl, ap, ◌∙◌, rules}
use Rattle.mc_machine.specs.Stands.{Config}
use Rattle.statement_effects.specs.State.{Memory}
use Rattle.mc_machine.proofs.Begun.{runs_block}
use Rattle.mc_machine.specs.EngineView.{place_of, frame_of, config_of}
use Rattle.mc_machine.proofs.Sound.{pop_sound}
use Rattle.mc_machine.proofs.Stored.{frames_push, indexed_pop}
use Rattle.mc_machine.proofs.engine.Engine.leave.Goals as goal

pub returns-clause-left : goal.returns-clause-left
returns-clause-left c = (refl, frame_of c.in-Some.frame, frames_push _ _ c.in-Some.frame c.in-Some.ensures.items, search rules)

pub returns-clause-sound : goal.returns-clause-sound
returns-clause-sound c =
    let after : Config =
    record (config_of c.args.self.now) { place = place_of c.in-Some.frame.spot; frames = map frame_of c.pop.new.self.items; memory = c.set_registers.new.self } in
    pop_sound (config_of c.args.self.now) after (frame_of c.in-Some.frame) (frames_push _ _ c.in-Some.frame c.in-Some.ensures.items) refl
    (ap (λ (m : Memory). m.levels) c.set_registers.ensures ∙ ap (λ (m : Memory). m.levels) c.end_block.ensures)
    c.requires.sound

pub returns-clause-stored : goal.returns-clause-stored
returns-clause-stored c =
    let popped = indexed_pop c.args.self.now.program _ _ c.in-Some.frame c.in-Some.ensures.items c.requires.stored.later in
    record { here = popped.1; later = popped.0; decoded = c.requires.stored.decoded; found = c.requires.stored.found }

pub end_block-requires : goal.end_block-requires
end_block-requires c = runs_block _ c.args.self.now.memory.levels c.requires.sound.begun c.requires.some
