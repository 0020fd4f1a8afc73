-- What a contract says of a lock and a seat.
use Rattle.std.specs.Prelude.{◌≡◌, true, Some, is_some}
use Rattle.s7_events.specs.declared.entry.Side.{Side}
pub use Rattle.atomic_table.specs.Seated.{TableId}
use Rattle.pair_lock.specs.declared.seat.PairLock.{PairLock}
use Rattle.pair_lock.specs.declared.seat.Seat.{Seat}
use Rattle.pair_lock.specs.declared.view.View.{View}
use Rattle.pair_lock.specs.Views.{last_known}

module _ {T : Type 0} where
  -- which lock it is
  abbrev pub lock_id : PairLock T → TableId
  lock_id lock = lock.table.shared.table_id

  -- what the seat knows
  abbrev pub view_of : Seat T → View T
  view_of seat = seat.seat.me.0

  -- the seat is of this lock
  abbrev pub IsOf : TableId → Seat T → Type 0
  IsOf id seat = seat.seat.table_id ≡ id

  -- the next seat is of the same lock, and of the same side
  pub record IsNext (seat next : Seat T) : Type 0 where
    pub lock : next.seat.table_id ≡ seat.seat.table_id
    pub a : is_some (view_of next).a ≡ is_some (view_of seat).a
    pub b : is_some (view_of next).b ≡ is_some (view_of seat).b

  -- the seat is that of this side
  abbrev pub IsSeatOf : Side → Seat T → Type 0
  IsSeatOf side seat = is_some (last_known (view_of seat) side) ≡ true

  -- the seat is that of this side, and knows the value as x
  abbrev pub Knows : Side → Seat T → T → Type 0
  Knows side seat x = last_known (view_of seat) side ≡ Some x
