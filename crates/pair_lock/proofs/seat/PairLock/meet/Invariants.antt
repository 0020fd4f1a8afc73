use Rattle.std.proofs.Common.{◌≡◌, ◌≤◌}
use Rattle.pair_lock.specs.Views.{SameKnown}
use Rattle.pair_lock.specs.Seats.{view_of, IsNext}
use Rattle.pair_lock.proofs.seat.PairLock.meet.Given as goal

abbrev pub invariant-loop : goal.invariant-loop
invariant-loop g l =
    IsNext l.fn.seat l.seat × SameKnown (view_of l.fn.seat) (view_of l.seat) × (l.f ≡ l.fn.f)
    × ((view_of l.fn.seat).tries ≤ (view_of l.seat).tries)
