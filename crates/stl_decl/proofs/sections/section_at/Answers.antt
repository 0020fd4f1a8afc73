use Rattle.std.proofs.Common.{arith, rules}
use Rattle.std.proofs.lemmas.Result.{err_from_is_err_and}
use Rattle.stl_decl.specs.Steps.{end_fault}
use Rattle.stl_decl.specs.Sections.{section_turn, section_at, layout_view}
use Rattle.stl_decl.specs.Layout.{declaration_of}
use Rattle.stl_decl.specs.Declarations.{declaration_at}
use Rattle.stl_decl.proofs.Repeat.{ends, goes_on, fails, runs_out, fails_with}
use Rattle.stl_decl.proofs.Turns.{section_ends, section_goes, section_fails}
use Rattle.stl_decl.proofs.sections.section_at.Goals as goal

pub loop-turn-init : goal.loop-turn-init
unfolding section_at
loop-turn-init c = search rules

pub returns-in-Some-clause-exact : goal.returns-in-Some-clause-exact
returns-in-Some-clause-exact c =
    let e = section_ends c.args.turns c.args.text.now c.args.kind (c.loop-turn.layout, c.loop-turn.rest.now) (c.in-Some.field-0-0, c.in-Some.after.now) (rw c.end_word.ensures at c.in-Some.ensures) in
    ends (end_fault c.args.text.now) (section_turn c.args.turns c.args.text.now c.args.kind) (c.loop-turn.layout, c.loop-turn.rest.now) (section_at c.args.turns c.args.text.now c.args.kind c.args.layout c.args.tokens.now) c.args.turns c.loop-turn._turn c.loop-turn.invariant.here (omega arith) _ e

pub returns-in_err-declaration-clause-exact : goal.returns-in_err-declaration-clause-exact
returns-in_err-declaration-clause-exact c =
    let p = err_from_is_err_and c.from_residual.result c.from_residual.ensures.1 in
    let none = rw c.end_word.ensures at c.in_default.ensures in
    rw (p.1, p.2) (fails_with layout_view (section_at c.args.turns c.args.text.now c.args.kind c.args.layout c.args.tokens.now) (declaration_at c.args.turns c.args.text.now c.args.kind c.loop-turn.layout c.loop-turn.rest.now) c.in_err-declaration.field-0.0 c.in_err-declaration.ensures.exact
    (λ f is. fails (end_fault c.args.text.now) (section_turn c.args.turns c.args.text.now c.args.kind) (c.loop-turn.layout, c.loop-turn.rest.now) (section_at c.args.turns c.args.text.now c.args.kind c.args.layout c.args.tokens.now) c.args.turns c.loop-turn._turn c.loop-turn.invariant.here (omega arith) f
    (section_fails c.args.turns c.args.text.now c.args.kind (c.loop-turn.layout, c.loop-turn.rest.now) none f is)))

pub loop-turn-preserved : goal.loop-turn-preserved
loop-turn-preserved c =
    let none = rw c.end_word.ensures at c.in_default.ensures in
    let e = section_goes c.args.turns c.args.text.now c.args.kind (c.loop-turn.layout, c.loop-turn.rest.now) none (declaration_of c.in_ok-declaration.declaration, c.in_ok-declaration.after.now) c.in_ok-declaration.ensures.exact in
    record {
      here = rw c.in_ok-declare.ensures.added (goes_on (end_fault c.args.text.now) (section_turn c.args.turns c.args.text.now c.args.kind) (c.loop-turn.layout, c.loop-turn.rest.now) (section_at c.args.turns c.args.text.now c.args.kind c.args.layout c.args.tokens.now) c.args.turns c.loop-turn._turn c.loop-turn.invariant.here (omega arith) _ e);
      end = omega (arith, c.in_ok-declare.ensures.end, c.in_ok-declaration.ensures.first, c.loop-turn.invariant.end);
    }

pub returns-clause-exact : goal.returns-clause-exact
returns-clause-exact c = rw c.end_fault.ensures (runs_out (end_fault c.args.text.now) (section_turn c.args.turns c.args.text.now c.args.kind) (c.loop-turn.layout, c.loop-turn.rest.now) (section_at c.args.turns c.args.text.now c.args.kind c.args.layout c.args.tokens.now) c.args.turns c.loop-turn._turn c.loop-turn.invariant.here (omega arith))
