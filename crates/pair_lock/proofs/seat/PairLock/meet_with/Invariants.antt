use Rattle.std.proofs.Common.{◌≡◌, ◌≤◌, ◌||◌, true, [], None, is_some}
use Rattle.pair_lock.specs.Views.{SameKnown}
use Rattle.pair_lock.specs.Seats.{view_of}
use Rattle.pair_lock.proofs.seat.PairLock.meet_with.Given as goal

abbrev pub invariant-loop : goal.invariant-loop
invariant-loop g l =
    (l.inner.table_id ≡ l.fn.seat.seat.table_id) × SameKnown (view_of l.fn.seat) l.inner.me.0
    × (l.inner.me.1 ≡ []) × (l.inner.me.0.took ≡ None) × ((is_some l.inner.me.0.a || is_some l.inner.me.0.b) ≡ true)
    × (l.state ≡ l.initial.state)
    × ((view_of l.fn.seat).tries ≤ l.inner.me.0.tries)
