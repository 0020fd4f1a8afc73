use Rattle.std.proofs.Common.{◌≡◌, ◌+◌, false, vec_len, sym, subst, arith, rules}
use Rattle.std.specs.Prelude.{All, IsTrue}
use Rattle.std.specs.List.{filter, filter_map}
use Rattle.s7_events.specs.Priorities.{is_cyclic}
use Rattle.alarm_queue.specs.Order.{waits_once}
use Rattle.alarm_queue.specs.Due.{alarm_of, is_loaded, cyclic_obs}
use Rattle.alarm_queue.specs.Cursor.{IsPast}
use Rattle.alarm_queue.proofs.CursorLaws.{past_first}
use Rattle.alarm_queue.proofs.DueLaws.{line_others, line_rising, all_cyclic}
use Rattle.alarm_queue.proofs.waiting.Waiting.over.Goals as goal

pub invariant_of-result : goal.invariant_of-result
invariant_of-result c =
    let lines : c.in_ok-lines.lines.items ≡ filter_map alarm_of c.args.events.now = search rules in
    let cyclic : c.in_ok-cyclic.cyclic.items ≡ filter (is_loaded c.args.blocks.now) cyclic_obs = search rules in
    let more : c.in_ok-queue.queue.more ≡ vec_len c.in_ok-lines.lines + c.args.end = search rules in
    record {
      past = subst (λ ls. IsPast ls 0 0) (sym lines) (past_first (filter_map alarm_of c.args.events.now) (line_rising 0 c.args.events.now c.requires));
      others = subst (λ ls. All (λ a. waits_once a.ob ≡ false) ls) (sym lines) (line_others c.args.events.now);
      periods = subst (λ obs. All (λ ob. IsTrue (is_cyclic ob)) obs) (sym cyclic) (all_cyclic (is_loaded c.args.blocks.now));
      more = omega (arith, more, c.in_ok-lines.lines.ok);
    }
