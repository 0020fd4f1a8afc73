-- A data block of the tail.
use Rattle.std.specs.Prelude.{ℕ, List}

pub record DataBlock : Type 0 where
  pub number : ℕ
  pub bytes : List ℕ
