use Rattle.s7_events.specs.declared.entry.Side.TheVariants.{B}
use Rattle.lock_tests.specs.declared.notes.Notes.{Notes}
use Rattle.pair_lock.specs.Seats.{lock_id, IsOf, Knows}
use Rattle.lock_tests.proofs.notes.leave_all_of_b.Given as goal

abbrev pub invariant-loop-note : goal.invariant-loop-note
invariant-loop-note g l = IsOf (lock_id l.fn.lock) l.seat × ((x : Notes) × Knows B l.seat x)
