use Rattle.std.proofs.Common.{arith, rules}
use Rattle.std.proofs.lemmas.Result.{err_from_is_err_and}
use Rattle.stl_decl.specs.Steps.{end_fault}
use Rattle.stl_decl.specs.Sections.{temporaries_turn, temporaries_at, section_at, layout_view}
use Rattle.stl_decl.specs.declared.grammar.SectionKind.TheVariants.{Temporary}
use Rattle.stl_decl.proofs.Repeat.{ends, goes_on, fails, runs_out, fails_with}
use Rattle.stl_decl.proofs.Turns.{temporaries_goes, temporaries_fails, temporaries_ends, temporaries_refuses}
use Rattle.stl_decl.proofs.sections.temporaries_at.Goals as goal

pub loop-turn-init : goal.loop-turn-init
unfolding temporaries_at
loop-turn-init c = search rules

pub returns-in_err-no_section_at : goal.returns-in_err-no_section_at
returns-in_err-no_section_at c =
    let p = err_from_is_err_and c.from_residual.result c.from_residual.ensures.1 in
    let e = temporaries_refuses c.args.turns c.args.text.now (c.loop-turn.layout, c.loop-turn.rest.now) c.in_default.ensures c.in_err-no_section_at.field-0.0 c.in_err-no_section_at.ensures in
    rw (p.1, p.2) (fails (end_fault c.args.text.now) (temporaries_turn c.args.turns c.args.text.now) (c.loop-turn.layout, c.loop-turn.rest.now) (temporaries_at c.args.turns c.args.text.now c.args.tokens.now) c.args.turns c.loop-turn._turn c.loop-turn.invariant.here (omega arith) _ e)

pub returns-in_default : goal.returns-in_default
returns-in_default c =
    let e = temporaries_ends c.args.turns c.args.text.now (c.loop-turn.layout, c.loop-turn.rest.now) c.in_default.ensures tt c.in_ok-no_section_at.ensures in
    ends (end_fault c.args.text.now) (temporaries_turn c.args.turns c.args.text.now) (c.loop-turn.layout, c.loop-turn.rest.now) (temporaries_at c.args.turns c.args.text.now c.args.tokens.now) c.args.turns c.loop-turn._turn c.loop-turn.invariant.here (omega arith) _ e

pub returns-in_err-more : goal.returns-in_err-more
returns-in_err-more c =
    let p = err_from_is_err_and c.from_residual-in_err-more.result c.from_residual-in_err-more.ensures.1 in
    rw (p.1, p.2) (fails_with layout_view (temporaries_at c.args.turns c.args.text.now c.args.tokens.now) (section_at c.args.turns c.args.text.now Temporary c.loop-turn.layout c.in-Some.inside.now) c.in_err-more.field-0.0 c.in_err-more.ensures.exact
    (λ f is. fails (end_fault c.args.text.now) (temporaries_turn c.args.turns c.args.text.now) (c.loop-turn.layout, c.loop-turn.rest.now) (temporaries_at c.args.turns c.args.text.now c.args.tokens.now) c.args.turns c.loop-turn._turn c.loop-turn.invariant.here (omega arith) f
    (temporaries_fails c.args.turns c.args.text.now (c.loop-turn.layout, c.loop-turn.rest.now) (c.in-Some.field-0-0, c.in-Some.inside.now) c.in-Some.ensures f is)))

pub loop-turn-preserved : goal.loop-turn-preserved
loop-turn-preserved c =
    let e = temporaries_goes c.args.turns c.args.text.now (c.loop-turn.layout, c.loop-turn.rest.now) (c.in-Some.field-0-0, c.in-Some.inside.now) c.in-Some.ensures (c.in_ok-more.more, c.in_ok-more.after.now) c.in_ok-more.ensures.exact in
    record {
      here = goes_on (end_fault c.args.text.now) (temporaries_turn c.args.turns c.args.text.now) (c.loop-turn.layout, c.loop-turn.rest.now) (temporaries_at c.args.turns c.args.text.now c.args.tokens.now) c.args.turns c.loop-turn._turn c.loop-turn.invariant.here (omega arith) _ e;
      end = omega (arith, c.in_ok-more.ensures.small, c.loop-turn.invariant.end);
    }

pub returns : goal.returns
returns c = rw c.end_fault.ensures (runs_out (end_fault c.args.text.now) (temporaries_turn c.args.turns c.args.text.now) (c.loop-turn.layout, c.loop-turn.rest.now) (temporaries_at c.args.turns c.args.text.now c.args.tokens.now) c.args.turns c.loop-turn._turn c.loop-turn.invariant.here (omega arith))
