use Rattle.std.proofs.Common.{arith, length, List}
use Rattle.std.proofs.lemmas.Result.{err_from_is_err_and}
use Rattle.stl_decl.specs.Steps.{end_fault}
use Rattle.stl_decl.proofs.Repeat.{ends, goes_on, fails, runs_out, fails_with}
use Rattle.stl_reader.specs.Items.{part_at}
use Rattle.stl_lex.specs.declared.token.Token.{Token}
use Rattle.stl_reader.specs.Contents.{Contents, contents_of}
use Rattle.stl_reader.specs.Reading.{body_turn, parts_at, contents_view}
use Rattle.stl_reader.proofs.Turns.{turn_ends, turn_goes, turn_fails}
use Rattle.stl_reader.proofs.reading.parts_at.Goals as goal

pub returns-in_err-item : goal.returns-in_err-item
returns-in_err-item c =
    let p = err_from_is_err_and c.from_residual.result c.from_residual.ensures.1 in
    let s : Contents × List Token = (contents_of c.loop-turn.lists, c.loop-turn.rest.now) in
    let all = parts_at c.args.text.now c.args.kind c.args.temps.now c.args.tokens.now in
    record {
      exact = rw (p.1, p.2) (fails_with contents_view all (part_at c.args.text.now c.args.kind c.args.temps.now c.loop-turn.rest.now) c.in_err-item.field-0.0 c.in_err-item.ensures.exact
          (λ f is. fails (end_fault c.args.text.now) (body_turn c.args.text.now c.args.kind c.args.temps.now) s all (length c.args.tokens.now) c.loop-turn._turn c.loop-turn.invariant.0 (omega arith) f
          (turn_fails c.args.text.now c.args.kind c.args.temps.now s f is)));
    }

pub returns-in_default : goal.returns-in_default
returns-in_default c =
    let s : Contents × List Token = (contents_of c.loop-turn.lists, c.loop-turn.rest.now) in
    let e = turn_ends c.args.text.now c.args.kind c.args.temps.now s c.in_ok-item.after.now (rw c.in_default.is at c.in_ok-item.ensures.exact) in
    record {
      exact = ends (end_fault c.args.text.now) (body_turn c.args.text.now c.args.kind c.args.temps.now) s (parts_at c.args.text.now c.args.kind c.args.temps.now c.args.tokens.now) (length c.args.tokens.now) c.loop-turn._turn c.loop-turn.invariant.0 (omega arith) _ e;
    }

pub loop-turn-preserved : goal.loop-turn-preserved
loop-turn-preserved c =
    let s : Contents × List Token = (contents_of c.loop-turn.lists, c.loop-turn.rest.now) in
    let e = turn_goes c.args.text.now c.args.kind c.args.temps.now s c.in-Some.item c.in_ok-item.after.now (rw c.in-Some.is at c.in_ok-item.ensures.exact) in (
      rw c.in_ok-keep_item.ensures.ok (goes_on (end_fault c.args.text.now) (body_turn c.args.text.now c.args.kind c.args.temps.now) s (parts_at c.args.text.now c.args.kind c.args.temps.now c.args.tokens.now) (length c.args.tokens.now) c.loop-turn._turn c.loop-turn.invariant.0 (omega arith) _ e),
      omega (arith, c.in_ok-keep_item.ensures.count, c.loop-turn.invariant.1),
    )

pub returns : goal.returns
returns c = record {
  exact = rw c.end_fault.ensures (runs_out (end_fault c.args.text.now) (body_turn c.args.text.now c.args.kind c.args.temps.now) (contents_of c.loop-turn.lists, c.loop-turn.rest.now) (parts_at c.args.text.now c.args.kind c.args.temps.now c.args.tokens.now) (length c.args.tokens.now) c.loop-turn._turn c.loop-turn.invariant.0 (omega arith));
}
