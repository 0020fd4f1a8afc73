use Rattle.std.proofs.Common.{sym, subst}
use Rattle.pair_lock.specs.Meetings.{MayMeet}
use Rattle.pair_lock.specs.Seats.{view_of}
use Rattle.pair_lock.proofs.Turning.{may_meet_again}
use Rattle.pair_lock.proofs.seat.PairLock.meet.Goals as goal

pub try_meet-requires-clause-call : goal.try_meet-requires-clause-call
try_meet-requires-clause-call g c =
    subst (λ f. MayMeet g.T.History.entries g.T.History.own g.F.FnOnce f (view_of c.loop.seat)) (sym c.loop.invariant.2)
    (may_meet_again g.T.History.entries g.T.History.own g.F.FnOnce c.args.f (view_of c.args.seat) (view_of c.loop.seat) c.loop.invariant.1 c.requires.call)
