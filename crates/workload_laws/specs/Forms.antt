-- What the lines of a made script say.
use Rattle.std.specs.Prelude.{◌≡◌, ℕ, List, [], ◌∷◌, Some, None, true, false, codes}
use Rattle.s7_events.specs.declared.entry.Side.TheVariants.{B}
use Rattle.plant_script.specs.declared.plan.ModuleKind.TheVariants.{Switched}
use Rattle.plant_script.specs.declared.plan.What.TheVariants.{Input, Alarm, Fail}
use Rattle.plant_script.specs.declared.lines.Line.TheVariants.{Module as IsModule, At, End}
use Rattle.plant_script.specs.Numbers.{hex_of}
use Rattle.plant_script.specs.Lines.{line_of, module_of}

-- the words of each kind of line, by the values of their numbers
pub record HaveTheirForms (number : ℕ) : Type 0 where
  pub inputs : line_of number (codes "MODULE" ∷ codes "IN" ∷ codes "0" ∷ codes "1" ∷ codes "SWITCHED" ∷ []) ≡ Some (IsModule (module_of number true 0 1 Switched))
  pub outputs : line_of number (codes "MODULE" ∷ codes "OUT" ∷ codes "0" ∷ codes "1" ∷ codes "SWITCHED" ∷ []) ≡ Some (IsModule (module_of number false 0 1 Switched))
  pub input : (time : List ℕ) (high low value : ℕ) → hex_of 2 (high ∷ low ∷ []) ≡ Some value
      → line_of number (codes "AT" ∷ time ∷ codes "INPUT" ∷ codes "0" ∷ (high ∷ low ∷ []) ∷ []) ≡ Some (At (Input 0 None value))
  pub alarm : (time info : List ℕ) (value : ℕ) → hex_of 8 info ≡ Some value
      → line_of number (codes "AT" ∷ time ∷ codes "ALARM" ∷ codes "40" ∷ info ∷ []) ≡ Some (At (Alarm 40 value))
  pub loss : (time : List ℕ) → line_of number (codes "AT" ∷ time ∷ codes "FAIL" ∷ codes "B" ∷ []) ≡ Some (At (Fail B false))
  pub end : (time : List ℕ) → line_of number (codes "END" ∷ time ∷ []) ≡ Some End
