use Rattle.std.proofs.Common.{◌≡◌, true}
use Rattle.std.specs.Prelude.{is_some}
use Rattle.pair_top.specs.Pattern.{parts_of}
use Rattle.pair_top.specs.PatternView.{pieces_left}
use Rattle.pair_top.specs.WordsView.{visits_in}
use Rattle.pair_top.specs.Playing.{AreAt}
use Rattle.pair_top.proofs.Plays.{Reaches, visits_left}
use Rattle.pair_top.proofs.Patterns.{bytes_left}
use Rattle.pair_top.proofs.play.play_pattern.Given as goal

abbrev pub invariant-loop-left : goal.invariant-loop-left
invariant-loop-left l = record {
  setup : l.pair.setup ≡ l.fn.pair.setup;
  at : AreAt l.pair l.a l.b;
  parts : is_some (parts_of (pieces_left l.left)) ≡ true;
  played : Reaches l.fn.pair.setup l.fn.pair.world (visits_in l.pattern) l.pair.world (visits_left (parts_of (pieces_left l.left)));
}

abbrev pub decreases-loop-left : goal.decreases-loop-left
decreases-loop-left l = bytes_left l.left
