use Rattle.std.proofs.Common.{◌≡◌, arith, rules, ◌∙◌, ap}
use Rattle.std.specs.Prelude.{Some, None, Ok}
use Rattle.std.specs.Option.{option_map}
use Rattle.std.proofs.lemmas.Result.{err_from_is_err_and}
use Rattle.stl_decl.specs.Steps.{end_fault}
use Rattle.stl_decl.proofs.Repeat.{ends, goes_on, fails, runs_out}
use Rattle.block_loader.specs.Heads.{heads_turn, heads_at, head_at}
use Rattle.block_loader.proofs.Turns.{heads_turns, heads_fails}
use Rattle.block_loader.proofs.heads.heads_at.Goals as goal

pub loop-turn-init : goal.loop-turn-init
unfolding heads_at
loop-turn-init c = search rules

pub returns-in_err-found : goal.returns-in_err-found
returns-in_err-found c =
    let p = err_from_is_err_and c.from_residual.result c.from_residual.ensures.1 in
    let e = heads_fails c.args.text.now c.loop-turn.rest.now c.in_err-found.field-0.0 c.in_err-found.ensures in
    rw (p.1, p.2) (fails (end_fault c.args.text.now) (heads_turn c.args.text.now) c.loop-turn.rest.now (heads_at c.args.turns c.args.text.now c.args.tokens.now) c.args.turns c.loop-turn._turn c.loop-turn.invariant (omega arith) _ e)

pub returns-in_default : goal.returns-in_default
returns-in_default c =
    let h : head_at c.args.text.now c.loop-turn.rest.now ≡ Ok None = c.in_ok-found.ensures ∙ ap (λ o. Ok (option_map (λ rest. rest.now) o)) c.in_default.is in
    let e = heads_turns c.args.text.now c.loop-turn.rest.now None h in
    ends (end_fault c.args.text.now) (heads_turn c.args.text.now) c.loop-turn.rest.now (heads_at c.args.turns c.args.text.now c.args.tokens.now) c.args.turns c.loop-turn._turn c.loop-turn.invariant (omega arith) _ e

pub loop-turn-preserved : goal.loop-turn-preserved
loop-turn-preserved c =
    let h : head_at c.args.text.now c.loop-turn.rest.now ≡ Ok (Some c.in-Some.after.now) = c.in_ok-found.ensures ∙ ap (λ o. Ok (option_map (λ rest. rest.now) o)) c.in-Some.is in
    let e = heads_turns c.args.text.now c.loop-turn.rest.now (Some c.in-Some.after.now) h in
    goes_on (end_fault c.args.text.now) (heads_turn c.args.text.now) c.loop-turn.rest.now (heads_at c.args.turns c.args.text.now c.args.tokens.now) c.args.turns c.loop-turn._turn c.loop-turn.invariant (omega arith) _ e

pub returns : goal.returns
returns c = rw c.end_fault.ensures (runs_out (end_fault c.args.text.now) (heads_turn c.args.text.now) c.loop-turn.rest.now (heads_at c.args.turns c.args.text.now c.args.tokens.now) c.args.turns c.loop-turn._turn c.loop-turn.invariant (omega arith))
