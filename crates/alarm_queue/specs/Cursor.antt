-- How far the lines have come in.
use Rattle.std.specs.Prelude.{ℕ, ◌+◌, ◌≡◌, ◌≤◌, List, [], ◌∷◌, drop, length}
use Rattle.alarm_queue.specs.declared.alarm.DueAlarm.{DueAlarm}
use Rattle.alarm_queue.specs.Order.{add_all}
use Rattle.alarm_queue.specs.Due.{lines_due}

-- due from the moment on, and each not before the one before it
abbrev pub IsRising : ℕ → List DueAlarm → Type 0
IsRising m [] = Unit {0}
IsRising m (a ∷ rest) = (m ≤ a.due) × IsRising a.due rest

-- the lines from the cursor on are due from the moment on, and those before it don't count from then on
pub record IsPast (lines : List DueAlarm) (k cursor : ℕ) : Type 0 where
  pub within : cursor ≤ length lines
  pub rest : IsRising k (drop cursor lines)
  pub past : (j : ℕ) → k ≤ j → lines_due lines j ≡ lines_due (drop cursor lines) j

-- on the way through the lines of one moment: the cursor has come so far, and `xs` waits so far
pub record IsPassing (lines : List DueAlarm) (k : ℕ) (start : List DueAlarm) (cursor : ℕ) (xs : List DueAlarm) : Type 0 where
  pub within : cursor ≤ length lines
  pub rest : IsRising k (drop cursor lines)
  pub past : (j : ℕ) → k + 1 ≤ j → lines_due lines j ≡ lines_due (drop cursor lines) j
  pub items : add_all (lines_due lines k) start ≡ add_all (lines_due (drop cursor lines) k) xs
