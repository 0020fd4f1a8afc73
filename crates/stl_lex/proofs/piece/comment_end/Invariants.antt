use Rattle.std.proofs.Common.{◌≡◌, drop, false}
use Rattle.stl_lex.specs.Pieces.{closes_at}
use Rattle.stl_lex.proofs.piece.comment_end.Given as goal

abbrev pub invariant-loop-i : goal.invariant-loop-i
invariant-loop-i l = closes_at l.i l.seen_star (drop l.i l.bytes) ≡ closes_at 0 false l.bytes
