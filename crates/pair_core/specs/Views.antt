-- What contracts see of a list of showings.
use Rattle.std.specs.Prelude.{ℕ, List}
use Rattle.s7_events.specs.declared.entry.Side.{Side}

-- the showings of a run, each the number of an entry and a side, and the number of showings for which there is room
pub record Showings : Type 0 where
  pub list : List (ℕ × Side)
  pub room : ℕ
