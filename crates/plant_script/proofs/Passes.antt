-- The passes over the lines and over the events, as the loops do them.
use Rattle.std.proofs.Common.{◌≡◌, ℕ, ◌+◌, List, [], ◌∷◌, Option, Some, None, Result, Ok, Err, refl, sym, ◌∙◌, ap}
use Rattle.plant_script.specs.declared.script_error.ScriptFault.{ScriptFault}
use Rattle.plant_script.specs.declared.script_error.ScriptError.{ScriptError}
use Rattle.plant_script.specs.declared.script_error.ScriptError.TheVariants.{Fault, NoMemory}
use Rattle.plant_script.specs.Gives.{Fails}
use Rattle.plant_script.specs.Words.{uncons, lines_of}
use Rattle.plant_script.specs.Plan.{Plan}
use Rattle.plant_script.specs.FirstPass.{Reading, read_line, plan_by, first_pass}

abbrev some : {A : Type 0} → A → Option A
some x = Some x

some_is : {A : Type 0} (x y : A) → some x ≡ some y → x ≡ y
some_is x y e = cc

pub uncons_some : {A : Type 0} (xs : List A) (y : A) (ys : List A) → Some (y, ys) ≡ uncons xs → xs ≡ y ∷ ys
uncons_some [] y ys e = absurd cc
uncons_some (x ∷ xs) y ys e = let same = some_is (y, ys) (x, xs) e in ap (λ q. q.0 ∷ q.1) (sym same)

pub uncons_none : {A : Type 0} (xs : List A) → None ≡ uncons xs → xs ≡ []
uncons_none [] e = refl
uncons_none (x ∷ xs) e = absurd cc

module _ (r : Reading) (number : ℕ) (lines : List (List ℕ)) where
  pub lines_end : None ≡ uncons lines → first_pass r number lines ≡ plan_by r.end r number
  unfolding first_pass
  lines_end e = let none : lines ≡ [] = uncons_none lines e in rw none refl

  pub line_fails : (line : List ℕ) (others : List (List ℕ)) (fault : ScriptFault) → Some (line, others) ≡ uncons lines → read_line r number line ≡ Err fault → first_pass r number lines ≡ Err fault
  unfolding first_pass
  line_fails line others fault e is = let split : lines ≡ line ∷ others = uncons_some lines line others e in rw (split, is) refl

  pub line_goes : (line : List ℕ) (others : List (List ℕ)) (next : Reading) → Some (line, others) ≡ uncons lines → read_line r number line ≡ Ok next → first_pass r number lines ≡ first_pass next (number + 1) others
  unfolding first_pass
  line_goes line others next e is = let split : lines ≡ line ∷ others = uncons_some lines line others e in rw (split, is) refl

-- the exit by an error of a line
pub fails_with : (all : Result Plan ScriptFault) (here : Result Reading ScriptFault) (e : ScriptError) → Fails e here → ((fault : ScriptFault) → here ≡ Err fault → all ≡ Err fault) → Fails e all
fails_with all here (Fault fault) is k = k fault is
fails_with all here NoMemory is k = tt
