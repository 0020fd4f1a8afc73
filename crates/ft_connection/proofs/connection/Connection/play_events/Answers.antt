use Rattle.std.proofs.Common.{◌≡◌, ap}
use Rattle.std.proofs.lemmas.Result.{err_from_is_err_and}
use Rattle.ft_connection.specs.declared.event.Event.TheVariants.{Send}
use Rattle.ft_connection.specs.declared.event.NumberedEvent.{NumberedEvent}
use Rattle.ft_connection.specs.declared.frame.Path.TheVariants.{One}
use Rattle.ft_connection.specs.Playing.{Playing, all_played}
use Rattle.ft_connection.specs.ConnectionView.{world_of, playing_of}
use Rattle.ft_connection.proofs.PlayingLaws.{plays_on, stops, kept, all_done}
use Rattle.ft_connection.proofs.connection.Connection.play_events.Goals as goal

abbrev no_event : NumberedEvent
no_event = record { line = 0; event = Send One }

pub returns-in_err-play_event : goal.returns-in_err-play_event
returns-in_err-play_event c =
    let p = err_from_is_err_and c.from_residual.result c.from_residual.ensures.1 in
    rw (p.1, p.2) (stops (playing_of c.loop-numbered.self) c.args.events.now c.loop-numbered.numbered-index no_event
    (all_played (playing_of c.args.self.now) c.args.events.now) c.loop-numbered-test.true c.loop-numbered.invariant.0
    (Unit {0}) c.in_err-play_event.field-0.0 (playing_of c.play_event.new.self) _ c.in_err-play_event.ensures)

pub loop-numbered-preserved : goal.loop-numbered-preserved
loop-numbered-preserved c =
    let done = c.in_ok-play_event.ensures in
    let moved : world_of c.play_event.new.self ≡ _ = ap (λ (q : Playing). q.world) done.1 in
    let more = kept (world_of c.loop-numbered.self) (world_of c.play_event.new.self) _ moved c.loop-numbered.invariant.1 c.loop-numbered.invariant.2 in (
      plays_on (playing_of c.loop-numbered.self) c.args.events.now c.loop-numbered.numbered-index no_event
          (all_played (playing_of c.args.self.now) c.args.events.now) c.loop-numbered-test.true c.loop-numbered.invariant.0
          (playing_of c.play_event.new.self) done.0 done.1,
      more.0,
      more.1,
    )

pub returns : goal.returns
returns c =
    all_done (playing_of c.loop-numbered.self) c.args.events.now c.loop-numbered.numbered-index
    (all_played (playing_of c.args.self.now) c.args.events.now) c.loop-numbered-test.false c.loop-numbered.invariant.0
