use Rattle.std.proofs.Common.{refl}
use Rattle.pair_core.proofs.Advances.{stops_here, goes_by}
use Rattle.pair_core.proofs.cuts.Cuts.advance.Goals as goal

pub returns-then-event-moment : goal.returns-then-event-moment
returns-then-event-moment c =
    stops_here c.args.script.now c.args.moment c.loop-at.cuts c.events-events.result.now c.loop-at.at _ c.events-events.ensures.list c.loop-at.invariant.place c.loop-at-test.true c.if-event-moment.true
    c.events-events.ensures.form.rising c.loop-at.invariant.before

pub loop-at-preserved : goal.loop-at-preserved
loop-at-preserved c = record {
  place = refl;
  events = c.events-events.ensures.list;
  before = goes_by c.args.script.now c.args.moment c.loop-at.cuts c.events-events.result.now c.loop-at.at _ c.by_line.result c.by_line-in-loop-at.result c.events-events.ensures.list c.loop-at.invariant.place
      c.loop-at-test.true c.if-event-moment.false c.by_line.ensures c.by_line-in-loop-at.ensures c.loop-at.invariant.before;
}
