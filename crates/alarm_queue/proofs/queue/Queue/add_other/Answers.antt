use Rattle.std.proofs.Common.{◌-◌, ◌<◌, ap, sym, subst, arith}
use Rattle.std.specs.VecDeque.{deque_capacity}
use Rattle.alarm_queue.specs.Order.{InOrder}
use Rattle.alarm_queue.specs.Capacity.{HasCapacity}
use Rattle.alarm_queue.proofs.OrderLaws.{order_inserted}
use Rattle.alarm_queue.proofs.CapacityLaws.{fits_other, capacity_other}
use Rattle.alarm_queue.proofs.queue.Queue.add_other.Goals as goal

pub insert-requires-clause-capacity : goal.insert-requires-clause-capacity
insert-requires-clause-capacity c =
    let more : 0 < c.self.inside.more = omega (arith, c.requires.more, ap (λ q. q.more) c.self.view_is) in
    omega (arith, c.self.inside.alarms.ok.0, fits_other c.self.inside.modules.items c.self.inside.more (deque_capacity c.self.inside.alarms) c.self.inside.alarms.items c.self.invariant.enough more)

pub invariant_of-self : goal.invariant_of-self
invariant_of-self c =
    let more : 0 < c.self.inside.more = omega (arith, c.requires.more, ap (λ q. q.more) c.self.view_is) in
    record {
      order = subst InOrder (sym c.insert.ensures.items) (order_inserted c.args.alarm c.self.inside.alarms.items c.self.invariant.order);
      enough = subst (HasCapacity c.self.inside.modules.items (c.self.inside.more - 1) (deque_capacity c.insert.new.alarms)) (sym c.insert.ensures.items) (capacity_other c.self.inside.modules.items c.self.inside.more (deque_capacity c.self.inside.alarms) (deque_capacity c.insert.new.alarms) c.self.inside.alarms.items c.args.alarm c.self.invariant.enough more c.requires.other c.insert.ensures.capacity);
    }
