use Rattle.std.proofs.Common.{◌≡◌, ◌+◌, ◌*◌, ◌-◌, replicate}
use Rattle.s7_events.specs.declared.entry.Side.TheVariants.{A}
use Rattle.pair_core.specs.Progress.{IsAlone}
use Rattle.pair_top.specs.Playing.{AreAt}
use Rattle.pair_top.proofs.Plays.{Reaches}
use Rattle.pair_top.proofs.play.play_alone.Given as goal

-- no visit was answered Over yet
abbrev pub invariant-loop : goal.invariant-loop
invariant-loop l = record {
  bound : l.end ≡ 3 * l.fn.end + 1;
  alone : IsAlone l.pair.setup l.pair.world l.counter;
  setup : l.pair.setup ≡ l.fn.pair.setup;
  at : AreAt l.pair l.a l.b;
  played : Reaches l.fn.pair.setup l.fn.pair.world (replicate (3 * l.fn.end + 1) A) l.pair.world (replicate (3 * l.fn.end + 1 - l.counter) A);
}
