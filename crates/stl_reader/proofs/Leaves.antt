-- How many tokens a step of reading leaves.
use Rattle.std.proofs.Common.{ℕ, ◌<◌, ◌≤◌, List, length, Bool, true, false, cond, arith}
use Rattle.std.specs.Prelude.{Option, Some, None, Result, Ok, Err, IfSome, IfOk}
use Rattle.stl_lex.specs.declared.token.Token.{Token}
use Rattle.stl_decl.specs.declared.fault.Fault.{Fault}
use Rattle.stl_decl.specs.Steps.{◌>>=◌}

-- what is read leaves fewer tokens than this
pub record Leaves {A : Type 0} (rest : A → List Token) (most : ℕ) (r : Result A Fault) : Type 0 where
  pub fewer : IfOk r (λ x. length (rest x) < most)

-- what is found leaves fewer tokens than this
pub record Finds {A : Type 0} (rest : A → List Token) (most : ℕ) (o : Option A) : Type 0 where
  pub fewer : IfSome o (λ x. length (rest x) < most)

pub gives : {A : Type 0} {rest : A → List Token} {most : ℕ} (x : A) → length (rest x) < most → Leaves rest most (Ok x)
gives x h = record { fewer = h }

pub refuses : {A : Type 0} {rest : A → List Token} {most : ℕ} (f : Fault) → Leaves rest most (Err f)
refuses f = record { fewer = tt }

pub finds : {A : Type 0} {rest : A → List Token} {most : ℕ} (x : A) → length (rest x) < most → Finds rest most (Some x)
finds x h = record { fewer = h }

pub nothing : {A : Type 0} {rest : A → List Token} {most : ℕ} → Finds rest most None
nothing = record { fewer = tt }

pub leaves_less : {A : Type 0} {rest : A → List Token} {most : ℕ} (least : ℕ) (r : Result A Fault) → least ≤ most → Leaves rest least r → Leaves rest most r
leaves_less least (Ok x) h l = let fewer = l.fewer in record { fewer = omega (arith, fewer) }
leaves_less least (Err f) h l = record { fewer = tt }

-- a test of the tokens decides what is read
pub either : {A : Type 0} {rest : A → List Token} {most : ℕ} (b : Bool) (r s : Result A Fault) → Leaves rest most r → Leaves rest most s → Leaves rest most (cond b r s)
either true r s h k = h
either false r s h k = k

pub either_found : {A : Type 0} {rest : A → List Token} {most : ℕ} (b : Bool) (o p : Option A) → Finds rest most o → Finds rest most p → Finds rest most (cond b o p)
either_found true o p h k = h
either_found false o p h k = k

-- another step follows, which begins with what this one leaves
pub followed : {A B : Type 0} {before : A → List Token} {least : ℕ} {rest : B → List Token} {most : ℕ} (r : Result A Fault) (f : A → Result B Fault) → Leaves before least r → ((x : A) → length (before x) < least → Leaves rest most (f x)) → Leaves rest most (r >>= f)
followed (Ok x) f h k = k x h.fewer
followed (Err e) f h k = record { fewer = tt }

-- another step follows, which doesn't begin with what this one leaves
pub tested : {A B : Type 0} {rest : B → List Token} {most : ℕ} (r : Result A Fault) (f : A → Result B Fault) → ((x : A) → Leaves rest most (f x)) → Leaves rest most (r >>= f)
tested (Ok x) f k = k x
tested (Err e) f k = record { fewer = tt }
