use Rattle.std.proofs.Common.{arith}
use Rattle.std.specs.Prelude.{Some, None}
use Rattle.std.proofs.lemmas.Result.{err_from_is_err_and}
use Rattle.stl_decl.specs.Steps.{end_fault}
use Rattle.stl_decl.specs.Initials.{initial_turn, initials_at, Filled}
use Rattle.stl_decl.proofs.Repeat.{ends, goes_on, fails, runs_out}
use Rattle.stl_decl.proofs.Turns.{initial_fails, initial_turns}
use Rattle.stl_decl.proofs.initials.initials_at.Goals as goal

pub returns-in_err-filling : goal.returns-in_err-filling
returns-in_err-filling c =
    let p = err_from_is_err_and c.from_residual.result c.from_residual.ensures.1 in
    let s : Filled = record { values = c.loop-turn.values.items; filled = c.loop-turn.filled } in
    let e = initial_fails c.args.text.now c.args.variable (s, c.loop-turn.rest.now) c.in_err-filling.field-0.0 c.in_err-filling.ensures.exact in
    rw (p.1, p.2) (fails (end_fault c.args.text.now) (initial_turn c.args.text.now c.args.variable) (s, c.loop-turn.rest.now) (initials_at c.args.turns c.args.text.now c.args.variable c.args.tokens.now) c.args.turns c.loop-turn._turn c.loop-turn.invariant.here (omega arith) _ e)

pub returns-in-None : goal.returns-in-None
returns-in-None c =
    let s : Filled = record { values = c.loop-turn.values.items; filled = c.loop-turn.filled } in
    let e = initial_turns c.args.text.now c.args.variable (s, c.loop-turn.rest.now) (c.in_ok-filling.filling, c.in_ok-filling.last, c.in_ok-filling.after.now) c.in_ok-filling.ensures.exact None c.in-None.ensures in
    rw c.in_ok-push.ensures.items (ends (end_fault c.args.text.now) (initial_turn c.args.text.now c.args.variable) (s, c.loop-turn.rest.now) (initials_at c.args.turns c.args.text.now c.args.variable c.args.tokens.now) c.args.turns c.loop-turn._turn c.loop-turn.invariant.here (omega arith) _ e)

pub loop-turn-preserved : goal.loop-turn-preserved
loop-turn-preserved c =
    let s : Filled = record { values = c.loop-turn.values.items; filled = c.loop-turn.filled } in
    let e = initial_turns c.args.text.now c.args.variable (s, c.loop-turn.rest.now) (c.in_ok-filling.filling, c.in_ok-filling.last, c.in_ok-filling.after.now) c.in_ok-filling.ensures.exact (Some (c.in-Some.field-0-0, c.in-Some.others.now)) c.in-Some.ensures in
    record {
      here = rw c.in_ok-push.ensures.items (goes_on (end_fault c.args.text.now) (initial_turn c.args.text.now c.args.variable) (s, c.loop-turn.rest.now) (initials_at c.args.turns c.args.text.now c.args.variable c.args.tokens.now) c.args.turns c.loop-turn._turn c.loop-turn.invariant.here (omega arith) _ e);
      filled = c.in_ok-filling.ensures.within;
    }

pub returns : goal.returns
returns c = rw c.end_fault.ensures (runs_out (end_fault c.args.text.now) (initial_turn c.args.text.now c.args.variable) (record { values = c.loop-turn.values.items; filled = c.loop-turn.filled }, c.loop-turn.rest.now) (initials_at c.args.turns c.args.text.now c.args.variable c.args.tokens.now) c.args.turns c.loop-turn._turn c.loop-turn.invariant.here (omega arith))
