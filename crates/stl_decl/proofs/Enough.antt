-- Where each turn that goes on leaves less to take, more turns than there is to take change nothing.
use Rattle.std.proofs.Common.{◌≡◌, ◌≤◌, ◌<◌, ℕ, zero, suc, List, length, arith, refl, subst}
use Rattle.std.specs.Prelude.{Result, Ok, Err}
use Rattle.stl_lex.specs.declared.token.Token.{Token}
use Rattle.stl_decl.specs.declared.fault.Fault.{Fault}
use Rattle.stl_decl.specs.Steps.{◌>>=◌}
use Rattle.stl_decl.specs.Repeat.{Turn, Ended, Goes, repeated}
use Rattle.stl_decl.proofs.Fewer.{Leaves, given, refused}

-- a turn that goes on leaves less than n, and one that ends leaves no more
abbrev pub Sinks : {S A : Type 0} → (S → ℕ) → (A → List Token) → ℕ → Result (Turn S A) Fault → Type 0
Sinks state rest n (Ok (Goes next)) = state next < n
Sinks state rest n (Ok (Ended a)) = length (rest a) ≤ n
Sinks state rest n (Err f) = Unit {0}

pub record Lowers {S A : Type 0} (state : S → ℕ) (rest : A → List Token) (n : ℕ) (turn : Result (Turn S A) Fault) : Type 0 where
  pub sinks : Sinks state rest n turn

-- a step, and what the turn comes to behind it
pub lowers_after : {B S A : Type 0} {from : B → List Token} {n : ℕ} {r : Result B Fault} {state : S → ℕ} {rest : A → List Token} {k : ℕ} {f : B → Result (Turn S A) Fault} → Leaves from n r → ((x : B) → length (from x) < n → Lowers state rest k (f x)) → Lowers state rest k (r >>= f)
lowers_after {r = Ok x} h g = g x h.fewer
lowers_after {r = Err e} h g = record { sinks = tt }

module _ {S A : Type 0} (late : Fault) (state : S → ℕ) (rest : A → List Token) (turn : S → Result (Turn S A) Fault) (lowers : (s : S) → Lowers state rest (state s) (turn s)) where
  -- what the turns come to leaves no more than there was at first
  pub repeated_leaves : (n k : ℕ) (s : S) → state s < k → Leaves rest k (repeated late turn n s)
  unfolding repeated
  repeated_leaves zero k s h = refused rest k late
  repeated_leaves (suc n) k s h = by (λ next less. repeated_leaves n k next less) (turn s) (lowers s)
    where
      by : ((next : S) → state next < k → Leaves rest k (repeated late turn n next)) → (r : Result (Turn S A) Fault) → Lowers state rest (state s) r → Leaves rest k (r >>= λ t. elim t [ Ended a ↦ Ok a | Goes next ↦ repeated late turn n next ])
      by again (Ok (Ended a)) l = let less = l.sinks in given rest k a (omega arith)
      by again (Ok (Goes next)) l = let less = l.sinks in again next (omega arith)
      by again (Err f) l = refused rest k f

  -- turns that are the same as long as no more is left than this come to the same, however many of them may be made
  module _ (other : S → Result (Turn S A) Fault) (most : ℕ) (same : (s : S) → state s ≤ most → turn s ≡ other s) where
    pub same_turns : (n m : ℕ) (s : S) → state s ≤ most → state s < n → state s < m → repeated late turn n s ≡ repeated late other m s
    unfolding repeated
    same_turns zero m s b h k = absurd (omega arith)
    same_turns (suc n) zero s b h k = absurd (omega arith)
    same_turns (suc n) (suc m) s b h k =
        subst (λ r. repeated late turn (suc n) s ≡ (r >>= λ t. elim t [ Ended a ↦ Ok a | Goes next ↦ repeated late other m next ])) (same s b)
        (by (λ next b h k. same_turns n m next b h k) (turn s) (lowers s))
      where
        by : ((next : S) → state next ≤ most → state next < n → state next < m → repeated late turn n next ≡ repeated late other m next) → (r : Result (Turn S A) Fault) → Lowers state rest (state s) r → (r >>= λ t. elim t [ Ended a ↦ Ok a | Goes next ↦ repeated late turn n next ]) ≡ (r >>= λ t. elim t [ Ended a ↦ Ok a | Goes next ↦ repeated late other m next ])
        by again (Ok (Ended a)) l = refl
        by again (Ok (Goes next)) l = let less = l.sinks in again next (omega arith) (omega arith) (omega arith)
        by again (Err f) l = refl
