use Rattle.std.proofs.Common.{arith, rules}
use Rattle.std.proofs.lemmas.Result.{err_from_is_err_and}
use Rattle.stl_decl.specs.Steps.{end_fault}
use Rattle.stl_decl.specs.Sections.{assignments_turn, assignments_at, assignment_at, layout_view}
use Rattle.stl_decl.proofs.Repeat.{ends, goes_on, fails, runs_out, fails_with}
use Rattle.stl_decl.proofs.Turns.{assignments_ends, assignments_goes, assignments_fails}
use Rattle.stl_decl.proofs.sections.assignments_at.Goals as goal

pub loop-turn-init : goal.loop-turn-init
unfolding assignments_at
loop-turn-init c = search rules

pub returns-in-Some : goal.returns-in-Some
returns-in-Some c =
    let e = assignments_ends c.args.text.now (c.loop-turn.layout, c.loop-turn.rest.now) (c.in-Some.field-0-0, c.in-Some.after.now) c.in-Some.ensures in
    ends (end_fault c.args.text.now) (assignments_turn c.args.text.now) (c.loop-turn.layout, c.loop-turn.rest.now) (assignments_at c.args.turns c.args.text.now c.args.layout c.args.tokens.now) c.args.turns c.loop-turn._turn c.loop-turn.invariant (omega arith) _ e

pub returns-in_err-value : goal.returns-in_err-value
returns-in_err-value c =
    let p = err_from_is_err_and c.from_residual.result c.from_residual.ensures.1 in
    rw (p.1, p.2) (fails_with layout_view (assignments_at c.args.turns c.args.text.now c.args.layout c.args.tokens.now) (assignment_at c.args.text.now c.loop-turn.layout c.loop-turn.rest.now) c.in_err-value.field-0.0 c.in_err-value.ensures
    (λ f is. fails (end_fault c.args.text.now) (assignments_turn c.args.text.now) (c.loop-turn.layout, c.loop-turn.rest.now) (assignments_at c.args.turns c.args.text.now c.args.layout c.args.tokens.now) c.args.turns c.loop-turn._turn c.loop-turn.invariant (omega arith) f
    (assignments_fails c.args.text.now (c.loop-turn.layout, c.loop-turn.rest.now) c.in_default.ensures f is)))

pub loop-turn-preserved : goal.loop-turn-preserved
loop-turn-preserved c =
    let e = assignments_goes c.args.text.now (c.loop-turn.layout, c.loop-turn.rest.now) c.in_default.ensures (c.in_ok-value.value, c.in_ok-value.after.now) c.in_ok-value.ensures in
    rw c.in_ok-assign.ensures.assigned (goes_on (end_fault c.args.text.now) (assignments_turn c.args.text.now) (c.loop-turn.layout, c.loop-turn.rest.now) (assignments_at c.args.turns c.args.text.now c.args.layout c.args.tokens.now) c.args.turns c.loop-turn._turn c.loop-turn.invariant (omega arith) _ e)

pub returns : goal.returns
returns c = rw c.end_fault.ensures (runs_out (end_fault c.args.text.now) (assignments_turn c.args.text.now) (c.loop-turn.layout, c.loop-turn.rest.now) (assignments_at c.args.turns c.args.text.now c.args.layout c.args.tokens.now) c.args.turns c.loop-turn._turn c.loop-turn.invariant (omega arith))
