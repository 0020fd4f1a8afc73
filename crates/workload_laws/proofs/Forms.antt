-- What the lines of a made script say.
use Rattle.std.proofs.Common.{◌≡◌, ℕ, Bool, true, false, eqb, List, [], ◌∷◌, Some, None, refl, codes}
use Rattle.std.specs.Prelude.{◌&&◌}
use Rattle.s7_events.specs.declared.entry.Side.TheVariants.{B}
use Rattle.plant_script.specs.declared.plan.ModuleKind.TheVariants.{Switched}
use Rattle.plant_script.specs.declared.plan.What.TheVariants.{Input, Alarm, Fail}
use Rattle.plant_script.specs.declared.lines.Line.TheVariants.{Module as IsModule, At, End}
use Rattle.plant_script.specs.Numbers.{value_of, is_number, number_within, hex_of}
use Rattle.plant_script.specs.Lines.{number_at, hex_at, side_of, side_at, maybe_side_at, kind_at, module_at, module_of, byte_at, input_at, alarm_at, fail_at, at_at, end_at, statement_of, line_of}
use Rattle.workload_laws.specs.Forms.{HaveTheirForms}

and_false : (b : Bool) → (b && false) ≡ false
and_false true = refl
and_false false = refl

-- two letters name no side
no_side : (x y : ℕ) → side_of (x ∷ y ∷ []) ≡ None
no_side x y = rw (and_false (eqb x 65), and_false (eqb x 66)) refl

side_left : (x y : ℕ) → maybe_side_at ((x ∷ y ∷ []) ∷ []) ≡ (None, (x ∷ y ∷ []) ∷ [])
unfolding maybe_side_at side_at
side_left x y = rw (no_side x y) refl

module _ (number : ℕ) where
  inputs_form : line_of number (codes "MODULE" ∷ codes "IN" ∷ codes "0" ∷ codes "1" ∷ codes "SWITCHED" ∷ []) ≡ Some (IsModule (module_of number true 0 1 Switched))
  unfolding line_of statement_of module_at number_at number_within is_number value_of kind_at
  inputs_form = refl

  outputs_form : line_of number (codes "MODULE" ∷ codes "OUT" ∷ codes "0" ∷ codes "1" ∷ codes "SWITCHED" ∷ []) ≡ Some (IsModule (module_of number false 0 1 Switched))
  unfolding line_of statement_of module_at number_at number_within is_number value_of kind_at
  outputs_form = refl

  input_form : (time : List ℕ) (high low value : ℕ) → hex_of 2 (high ∷ low ∷ []) ≡ Some value
      → line_of number (codes "AT" ∷ time ∷ codes "INPUT" ∷ codes "0" ∷ (high ∷ low ∷ []) ∷ []) ≡ Some (At (Input 0 None value))
  unfolding line_of statement_of at_at input_at byte_at is_number value_of hex_at
  input_form time high low value read = rw (side_left high low, read) refl

  alarm_form : (time info : List ℕ) (value : ℕ) → hex_of 8 info ≡ Some value
      → line_of number (codes "AT" ∷ time ∷ codes "ALARM" ∷ codes "40" ∷ info ∷ []) ≡ Some (At (Alarm 40 value))
  unfolding line_of statement_of at_at alarm_at number_at number_within is_number value_of hex_at
  alarm_form time info value read = rw read refl

  loss_form : (time : List ℕ) → line_of number (codes "AT" ∷ time ∷ codes "FAIL" ∷ codes "B" ∷ []) ≡ Some (At (Fail B false))
  unfolding line_of statement_of at_at fail_at side_at
  loss_form time = refl

  end_form : (time : List ℕ) → line_of number (codes "END" ∷ time ∷ []) ≡ Some End
  unfolding line_of statement_of end_at
  end_form time = refl

  pub lines_have_forms : HaveTheirForms number
  lines_have_forms = record { inputs = inputs_form; outputs = outputs_form; input = input_form; alarm = alarm_form; loss = loss_form; end = end_form }
