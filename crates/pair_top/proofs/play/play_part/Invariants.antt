use Rattle.std.proofs.Common.{◌≡◌, ◌-◌}
use Rattle.pair_top.specs.Pattern.{repeated}
use Rattle.pair_top.specs.PatternView.{sides_in}
use Rattle.pair_top.specs.Playing.{AreAt}
use Rattle.pair_top.proofs.Plays.{Reaches}
use Rattle.pair_top.proofs.play.play_part.Given as goal

abbrev pub invariant-loop : goal.invariant-loop
invariant-loop l = record {
  setup : l.pair.setup ≡ l.fn.pair.setup;
  at : AreAt l.pair l.a l.b;
  played : Reaches l.fn.pair.setup l.fn.pair.world (repeated l.fn.times (sides_in l.letters)) l.pair.world (repeated (l.fn.times - l.counter) (sides_in l.letters));
}
