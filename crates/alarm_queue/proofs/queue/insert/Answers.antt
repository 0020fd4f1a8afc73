use Rattle.std.proofs.Common.{◌≤◌, ◌∙◌, length, arith, rules}
use Rattle.std.specs.Prelude.{not}
use Rattle.std.proofs.lemmas.List.Sorted.{IsPartitionPoint-from_clause}
use Rattle.alarm_queue.specs.Order.{is_before}
use Rattle.alarm_queue.proofs.OrderLaws.{partitioned, inserted}
use Rattle.alarm_queue.proofs.queue.insert.Goals as goal

-- the search finds the place
pub returns-clause-items : goal.returns-clause-items
returns-clause-items c =
    let point = IsPartitionPoint-from_clause (λ y. not (is_before c.args.alarm y)) _ _ c.partition_point-place.ensures.partitioned (partitioned c.args.alarm c.args.alarms.now.items c.requires.order) (λ a r q k. search rules) in
    let within : c.partition_point-place.result ≤ length c.args.alarms.now.items = omega (arith, c.args.alarms.now.ok.0, c.partition_point-place.ensures.bound) in
    c.in-Ok.ensures.items ∙ inserted c.args.alarm c.args.alarms.now.items c.partition_point-place.result point within
