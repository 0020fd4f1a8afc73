use Rattle.std.proofs.Common.{◌≡◌}
use Rattle.pair_core.specs.CutsKept.{IsCutsBefore}
use Rattle.pair_core.proofs.cuts.Cuts.advance.Given as goal

-- the lines before this one are applied
abbrev pub invariant-loop-at : goal.invariant-loop-at
invariant-loop-at l = record {
  place : l.cuts.applied ≡ l.at;
  events : l.events ≡ l.script.events;
  before : IsCutsBefore l.script l.moment l.cuts;
}
