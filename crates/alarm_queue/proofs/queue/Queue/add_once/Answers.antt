use Rattle.std.proofs.Common.{◌≡◌, true, false, sym, subst, arith, rules}
use Rattle.std.specs.VecDeque.{deque_capacity}
use Rattle.alarm_queue.specs.Order.{InOrder, waits}
use Rattle.alarm_queue.specs.Capacity.{HasCapacity, has_slot, slots}
use Rattle.alarm_queue.proofs.OrderLaws.{order_inserted}
use Rattle.alarm_queue.proofs.CapacityLaws.{fits_once, capacity_once}
use Rattle.alarm_queue.proofs.queue.Queue.add_once.Goals as goal

pub insert-requires-clause-capacity : goal.insert-requires-clause-capacity
insert-requires-clause-capacity c =
    let none : waits c.args.alarm c.self.inside.alarms.items ≡ false = search rules in
    let slot : has_slot (slots c.self.inside.modules.items) c.args.alarm ≡ true = subst (λ q. has_slot (slots q.modules) c.args.alarm ≡ true) (sym c.self.view_is) c.requires.slot in
    omega (arith, c.self.inside.alarms.ok.0, fits_once c.self.inside.modules.items c.self.inside.more (deque_capacity c.self.inside.alarms) c.self.inside.alarms.items c.args.alarm c.self.invariant.enough c.requires.once none slot)

pub invariant_of-self : goal.invariant_of-self
invariant_of-self c =
    let none : waits c.args.alarm c.self.inside.alarms.items ≡ false = search rules in
    let slot : has_slot (slots c.self.inside.modules.items) c.args.alarm ≡ true = subst (λ q. has_slot (slots q.modules) c.args.alarm ≡ true) (sym c.self.view_is) c.requires.slot in
    record {
      order = subst InOrder (sym c.insert.ensures.items) (order_inserted c.args.alarm c.self.inside.alarms.items c.self.invariant.order);
      enough = subst (HasCapacity c.self.inside.modules.items c.self.inside.more (deque_capacity c.insert.new.alarms)) (sym c.insert.ensures.items) (capacity_once c.self.inside.modules.items c.self.inside.more (deque_capacity c.self.inside.alarms) (deque_capacity c.insert.new.alarms) c.self.inside.alarms.items c.args.alarm c.self.invariant.enough c.requires.once none slot c.insert.ensures.capacity);
    }
