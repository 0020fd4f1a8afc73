use Rattle.std.proofs.Common.{refl, subst, arith, rules, ◌≡◌}
use Rattle.std.specs.Prelude.{slice_get, Some}
use Rattle.alarm_queue.specs.Order.{InOrder}
use Rattle.alarm_queue.proofs.DueLaws.{none_higher}
use Rattle.alarm_queue.proofs.waiting.Waiting.next_above.Goals as goal

-- the first is not above the priority, and no other is above the first
pub returns-in_default-clause-none : goal.returns-in_default-clause-none
returns-in_default-clause-none c =
    let order : InOrder c.args.self.now.waiting = subst (λ s. InOrder s.waiting) c.self.view_is c.first.ensures.order in
    let first : slice_get c.args.self.now.waiting 0 ≡ Some c.in-Some.alarm = search rules in (
      λ none. none_higher c.args.self.now.waiting c.in-Some.alarm c.args.prio order first (omega arith),
      λ all. refl,
    )
