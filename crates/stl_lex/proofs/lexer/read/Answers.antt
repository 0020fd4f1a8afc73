use Rattle.std.proofs.Common.{◌≡◌, arith, sym, ◌∙◌}
use Rattle.std.proofs.lemmas.Result.{err_from_is_err_and}
use Rattle.stl_lex.proofs.Cutting.{at_end, goes_on, fails}
use Rattle.stl_lex.specs.Place.{over}
use Rattle.stl_lex.specs.Pieces.{begun}
use Rattle.stl_lex.specs.Tokens.{text_tokens}
use Rattle.stl_lex.proofs.lexer.read.Goals as goal

pub returns-in_err-keep-clause-exact : goal.returns-in_err-keep-clause-exact
returns-in_err-keep-clause-exact c =
    let p = err_from_is_err_and c.from_residual.result c.from_residual.ensures.1 in
    rw (p.1, p.2) (fails c.loop-rest.list.items c.loop-rest.place c.loop-rest.rest.now (text_tokens c.args.text.now) c.piece_at-piece.result c.piece_at-piece.ensures.exact (omega arith) c.piece_at-piece.ensures.some c.loop-rest.invariant.same c.in_err-keep.field-0.0 c.keep.new.tokens.items c.in_err-keep.ensures.keeps)

pub loop-rest-preserved : goal.loop-rest-preserved
loop-rest-preserved c =
    let front = c.split_at.result.0.now in
    let place : c.over-place.result ≡ over (begun c.loop-rest.place c.piece_at-piece.result.form) front = rw (← c.begun.ensures.exact) c.over-place.ensures.over in
    record {
      same = goes_on c.loop-rest.list.items c.loop-rest.place c.loop-rest.rest.now (text_tokens c.args.text.now) c.piece_at-piece.result c.piece_at-piece.ensures.exact (omega arith) c.piece_at-piece.ensures.some c.loop-rest.invariant.same c.keep.new.tokens.items c.over-place.result front c.split_at.result.1.now c.split_at.ensures.front c.split_at.ensures.back place c.in_ok-keep.ensures.keeps;
      line = c.over-place.ensures.line;
      column = c.over-place.ensures.column;
      at = omega arith;
      count = omega (arith, c.keep.ensures.count, c.loop-rest.invariant.count, c.piece_at-piece.ensures.some);
    }

pub returns-clause-exact : goal.returns-clause-exact
returns-clause-exact c =
    rw c.new.ensures (at_end c.loop-rest.list.items c.loop-rest.place c.loop-rest.rest.now (text_tokens c.args.text.now) (sym c.is_empty.ensures ∙ c.loop-rest-test.false) c.loop-rest.invariant.same)
