-- What a counter holds.
use Rattle.std.specs.Prelude.{ℕ, Bool, false}

-- a number from 0 to 999, and the RLO of the last CU, CD, S and FR, those of CU, CD and S being 0 after an FR
pub record CounterState : Type 0 where
  pub value : ℕ
  pub cu_mem : Bool
  pub cd_mem : Bool
  pub s_mem : Bool
  pub fr_mem : Bool

-- a counter that was never used
abbrev pub fresh : CounterState
fresh = record { value = 0; cu_mem = false; cd_mem = false; s_mem = false; fr_mem = false }
