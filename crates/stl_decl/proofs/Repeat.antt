-- One more turn of a loop of reading.
use Rattle.std.proofs.Common.{◌≡◌, ◌≤◌, ◌<◌, ℕ, zero, suc, ◌-◌, ◌+◌, subst, arith, sym}
use Rattle.std.specs.Prelude.{Result, Ok, Err}
use Rattle.stl_decl.specs.declared.fault.Fault.{Fault}
use Rattle.stl_decl.specs.declared.fault.StepError.{StepError}
use Rattle.stl_decl.specs.declared.fault.StepError.TheVariants as errors
use Rattle.stl_decl.specs.Steps.{◌>>=◌, Fails, GivesOr}
use Rattle.stl_decl.specs.Repeat.{Turn, Ended, Goes, repeated}

-- a turn is left
pub one_left : (n k : ℕ) → k < n → n - k ≡ suc (n - (k + 1))
one_left n k h = omega arith

pub none_left : (n k : ℕ) → n ≤ k → n - k ≡ zero
none_left n k h = omega arith

module _ {S A F : Type 0} (late : F) (turn : S → Result (Turn S A) F) (s : S) (all : Result A F) (n k : ℕ) (here : repeated late turn (n - k) s ≡ all) where
  abbrev by : Result (Turn S A) F → Result A F
  by r = r >>= λ t. elim t [ Ended a ↦ Ok a | Goes next ↦ repeated late turn (n - (k + 1)) next ]

  left : k < n → by (turn s) ≡ all
  unfolding repeated
  left h = subst (λ m. repeated late turn m s ≡ all) (one_left n k h) here

  -- the turn ends
  pub ends : k < n → (a : A) → turn s ≡ Ok (Ended a) → all ≡ Ok a
  ends h a e = sym (subst (λ r. by r ≡ all) e (left h))

  -- another turn follows
  pub goes_on : k < n → (next : S) → turn s ≡ Ok (Goes next) → repeated late turn (n - (k + 1)) next ≡ all
  goes_on h next e = subst (λ r. by r ≡ all) e (left h)

  -- the turn fails
  pub fails : k < n → (f : F) → turn s ≡ Err f → all ≡ Err f
  fails h f e = sym (subst (λ r. by r ≡ all) e (left h))

  -- no turn is left
  pub runs_out : n ≤ k → all ≡ Err late
  unfolding repeated
  runs_out h = sym (subst (λ m. repeated late turn m s ≡ all) (none_left n k h) here)

-- the exit by an error of reading
pub fails_with : {X Y A : Type 0} (view : X → Y) (all : Result Y Fault) (r : Result A Fault) (e : StepError) → Fails e r → ((f : Fault) → r ≡ Err f → all ≡ Err f) → GivesOr view (Err e) all
fails_with view all r (errors.Fault f) is k = k f is
fails_with view all r errors.NoMemory is k = tt
