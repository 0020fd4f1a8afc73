use Rattle.std.proofs.Common.{◌≡◌, ◌≤◌, ◌+◌, length}
use Rattle.stl_lex.specs.Pieces.{cut}
use Rattle.stl_lex.specs.Tokens.{tokens_of, text_tokens}
use Rattle.stl_lex.proofs.Cutting.{with_front}
use Rattle.stl_lex.proofs.lexer.read.Given as goal

abbrev pub invariant-loop-rest : goal.invariant-loop-rest
invariant-loop-rest l = record {
  same : with_front l.list.items (tokens_of (cut 0 l.place l.rest)) ≡ text_tokens l.fn.text;
  line : l.place.line ≤ l.place.at + 1;
  column : l.place.column ≤ l.place.at + 1;
  at : l.place.at + length l.rest ≡ length l.fn.text;
  count : length l.list.items + length l.rest ≤ length l.fn.text;
}

abbrev pub decreases-loop-rest : goal.decreases-loop-rest
decreases-loop-rest l = length l.rest
