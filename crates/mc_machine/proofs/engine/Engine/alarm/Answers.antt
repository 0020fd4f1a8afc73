-- The block of an alarm begins over the place at which the request is made again.
use Rattle.std.proofs.Common.{length, ap, sym, ◌∙◌, ◌<◌, subst}
use Rattle.s7_events.specs.Priorities.{priority_of}
use Rattle.s7_base.specs.declared.blocks.CodeKind.TheVariants.{Ob}
use Rattle.s7_base.specs.Blocks.{code_of}
use Rattle.statement_effects.specs.State.{Memory}
use Rattle.mc_machine.specs.Meaning.{again}
use Rattle.mc_machine.specs.Stands.{Config, rank_of}
use Rattle.mc_machine.specs.EngineView.{config_of}
use Rattle.mc_machine.proofs.Alarms.{alarm_room, substitute_room, loaded_alarm, missing_alarm, wanted}
use Rattle.mc_machine.proofs.engine.Engine.alarm.Goals as goal

pub interrupt-requires-clause-room : goal.interrupt-requires-clause-room
interrupt-requires-clause-room c =
    let here = config_of c.args.self.now in
    subst (λ (m : Memory). length m.levels < rank_of (priority_of c.args.number)) (sym (ap (λ (k : Config). k.memory) c.repeat.ensures.repeated))
    (alarm_room (length here.frames) here.memory c.args.number c.args.info c.requires.sound.begun c.requires.above)

pub substitute-requires-clause-room : goal.substitute-requires-clause-room
substitute-requires-clause-room c =
    let here = config_of c.args.self.now in
    subst (λ (m : Memory). length m.levels < rank_of (priority_of 85)) (sym (ap (λ (k : Config). k.memory) c.repeat-then-wants_substitute.ensures.repeated))
    (substitute_room (length here.frames) here.memory c.args.number c.args.info c.requires.sound.begun c.requires.above (sym c.wants_substitute.ensures ∙ c.if-wants_substitute.true))

pub returns-in-Some-clause-alarmed : goal.returns-in-Some-clause-alarmed
returns-in-Some-clause-alarmed c =
    let here = config_of c.args.self.now in
    loaded_alarm here (config_of c.repeat.new.self) (config_of c.interrupt.new.self) (again c.args.ask.now here.place) c.args.number c.args.info c.in-Some.bytes c.alarm_note.result (code_of here.program Ob c.args.number) c.repeat.ensures.repeated c.alarm_note.ensures c.requires.fresh c.in-Some.ensures.bytes c.interrupt.ensures.moved

pub returns-then-wants_substitute-clause-alarmed : goal.returns-then-wants_substitute-clause-alarmed
returns-then-wants_substitute-clause-alarmed c =
    let here = config_of c.args.self.now in
    let place = again c.args.ask.now here.place in
    let wants = sym c.wants_substitute.ensures ∙ c.if-wants_substitute.true in
    missing_alarm here (config_of c.substitute.new.self) place c.args.number c.args.info (code_of here.program Ob c.args.number) c.in-None.ensures.bytes
    (wanted here (config_of c.repeat-then-wants_substitute.new.self) (config_of c.substitute.new.self) place c.args.number c.args.info c.repeat-then-wants_substitute.ensures.repeated c.requires.fresh wants c.substitute.ensures.moved)
