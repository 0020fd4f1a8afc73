-- What a timer holds. It has no count of its own: it keeps the moment of its start.
use Rattle.std.specs.Prelude.{ℕ, Bool, false}
use Rattle.s5_time.specs.Duration.{Duration}
use Rattle.instruction_set.specs.declared.operation.TimerKind.{TimerKind}
use Rattle.instruction_set.specs.declared.operation.TimerKind.TheVariants.{Sp}

-- the kind of the last start; whether it runs, since when and for how long; the RLO of the last start that FR
-- has not made 0 (`mem`), the RLO of the last start that R has not made 0 (`input`), the RLO of the last FR
pub record TimerState : Type 0 where
  pub kind : TimerKind
  pub running : Bool
  pub start : ℕ
  pub preset : Duration
  pub mem : Bool
  pub input : Bool
  pub fr_mem : Bool

-- a timer that was never started
abbrev pub fresh : TimerState
fresh = record { kind = Sp; running = false; start = 0; preset = record { base = 0; units = 0 }; mem = false; input = false; fr_mem = false }
