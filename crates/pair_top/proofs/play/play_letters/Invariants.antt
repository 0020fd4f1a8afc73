use Rattle.std.proofs.Common.{◌≡◌, drop, true}
use Rattle.std.specs.Prelude.{is_some}
use Rattle.pair_top.specs.Pattern.{sides_from}
use Rattle.pair_top.specs.PatternView.{sides_in}
use Rattle.pair_top.specs.Playing.{AreAt}
use Rattle.pair_top.proofs.Plays.{Reaches, sides_left}
use Rattle.pair_top.proofs.play.play_letters.Given as goal

abbrev pub invariant-loop-letter : goal.invariant-loop-letter
invariant-loop-letter l = record {
  setup : l.pair.setup ≡ l.fn.pair.setup;
  at : AreAt l.pair l.a l.b;
  letters : is_some (sides_from (drop l.letter-index l.letters)) ≡ true;
  played : Reaches l.fn.pair.setup l.fn.pair.world (sides_in l.letters) l.pair.world (sides_left (drop l.letter-index l.letters));
}
