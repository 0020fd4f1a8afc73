-- Turns that are made until one of them ends.
use Rattle.std.specs.Prelude.{◌≡◌, ◌<◌, ℕ, zero, suc, Result, Ok, Err}
use Rattle.stl_decl.specs.Steps.{◌>>=◌}

-- what a turn comes to
pub data Turn (S A : Type 0) : Type 0 where
  Ended : (value : A) → Turn S A
  Goes : (state : S) → Turn S A

-- at most n turns, and this fault where none of them ends
unfoldable pub repeated : {S A F : Type 0} → F → (S → Result (Turn S A) F) → ℕ → S → Result A F
repeated late turn zero s = Err late
repeated late turn (suc n) s = turn s >>= λ t. elim t [ Ended a ↦ Ok a | Goes next ↦ repeated late turn n next ]

-- with any number of turns above this one the reading is the same
abbrev pub IsSameAbove : {R : Type 0} → ℕ → (ℕ → R) → Type 0
IsSameAbove least reading = (n m : ℕ) → least < n → least < m → reading n ≡ reading m
