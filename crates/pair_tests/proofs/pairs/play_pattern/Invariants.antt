use Rattle.s7_events.specs.declared.entry.Side.TheVariants.{A, B}
use Rattle.pair_core.specs.World.{part}
use Rattle.pair_core.specs.Places.{IsAt}
use Rattle.pair_tests.proofs.pairs.play_pattern.Given as goal

-- both subsystems stand where the pair says
abbrev pub invariant-loop : goal.invariant-loop
invariant-loop l = record {
  a : IsAt l.pair.setup.program (part l.pair.world A) l.pair.world.log.entries l.a;
  b : IsAt l.pair.setup.program (part l.pair.world B) l.pair.world.log.entries l.b;
}

abbrev pub invariant-loop-side : goal.invariant-loop-side
invariant-loop-side l = record {
  a : IsAt l.pair.setup.program (part l.pair.world A) l.pair.world.log.entries l.a;
  b : IsAt l.pair.setup.program (part l.pair.world B) l.pair.world.log.entries l.b;
}
