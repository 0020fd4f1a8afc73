-- A script without fault has its form.
use Rattle.std.proofs.Common.{◌≡◌, ℕ, suc, ◌≤◌, ◌<◌, ◌+◌, Bool, true, false, cond, List, [], ◌∷◌, length, get_or, Option, Some, None, refl, sym, ◌∙◌, ap, subst, arith}
use Rattle.std.specs.Prelude.{All, is_some, ◌&&◌, nat_le, nat_lt}
use Rattle.std.specs.List.{find}
use Rattle.std.specs.Option.{option_map}
use Rattle.std.proofs.lemmas.Bool.{leb-true, leb-false, ltb-true, and_parts}
use Rattle.std.proofs.lemmas.List.Elements.{All-nil, All-cons, All-weaker}
use Rattle.plant_script.specs.declared.plan.Module.{Module}
use Rattle.plant_script.specs.declared.plan.Event.{Event}
use Rattle.plant_script.specs.declared.plan.What.{What}
use Rattle.plant_script.specs.declared.plan.What.TheVariants.{Input, Alarm, Job, Fail, Return, Suspect}
use Rattle.plant_script.specs.declared.second_pass.Failures.{Failures}
use Rattle.s7_events.specs.declared.entry.Side.{Side}
use Rattle.plant_script.specs.declared.script_error.ScriptFault.{ScriptFault}
use Rattle.plant_script.specs.Form.{IsModule}
use Rattle.plant_script.specs.Plan.{Plan, has_input, fits_side, no_failures, breaks_order, after_what, is_comeback, InOrder, HasFitting, HasModule, AreModules, AreEvents, IsBuilt, IsPlan}
use Rattle.plant_script.specs.FirstPass.{fault_at}
use Rattle.plant_script.specs.SecondPass.{event_fault, events_fault, unbuilt_line}
use Rattle.plant_script.specs.InputIndex.{IsBelow}
use Rattle.plant_script.specs.Sound.{AreParts}
use Rattle.plant_script.proofs.Sound.{find_none}

abbrev some : {A : Type 0} → A → Option A
some x = Some x

some_is : {A : Type 0} (x y : A) → some x ≡ some y → x ≡ y
some_is x y e = cc

-- ---- the second pass

pub record Ordered (end : ℕ) (failures : Failures) (events : List Event) : Type 0 where
  pub before : All (λ event. event.moment < end) events
  pub order : InOrder failures events

passes_event : (end : ℕ) (failures : Failures) (e : Event) → event_fault end failures e ≡ None → (e.moment < end) × (breaks_order failures e.moment e.what ≡ false)
passes_event end failures e is = by_tests (nat_le end e.moment) (breaks_order failures e.moment e.what) refl refl is
  where
    by_tests : (t u : Bool) → nat_le end e.moment ≡ t → breaks_order failures e.moment e.what ≡ u → cond {A = Option ℕ} t (Some 2) (cond {A = Option ℕ} u (Some 8) None) ≡ None → (e.moment < end) × (breaks_order failures e.moment e.what ≡ false)
    by_tests true u is' order none = absurd cc
    by_tests false true is' order none = absurd cc
    by_tests false false is' order none = (leb-false end e.moment is', order)

ordered : (end : ℕ) (failures : Failures) (events : List Event) → events_fault end failures events ≡ None → Ordered end failures events
ordered end failures [] e = record { before = All-nil (λ event. event.moment < end); order = tt }
ordered end failures (x ∷ xs) e = by_fault (event_fault end failures x) refl e (λ later. ordered end (after_what failures x.moment x.what) xs later)
  where
    by_fault : (o : Option ℕ) → event_fault end failures x ≡ o
        → ◌≡◌ {A = Option ScriptFault} (elim o [ Some kind ↦ Some (fault_at kind x.line) | None ↦ events_fault end (after_what failures x.moment x.what) xs ]) None
        → (events_fault end (after_what failures x.moment x.what) xs ≡ None → Ordered end (after_what failures x.moment x.what) xs) → Ordered end failures (x ∷ xs)
    by_fault (Some kind) is none deeper = absurd cc
    by_fault None is none deeper =
        let here = passes_event end failures x is in
        let later = deeper none in
        record {
          before = All-cons (λ event. event.moment < end) x xs here.0 later.before;
          order = (here.1, later.order);
        }

-- ---- what is supported

not_found : {X : Type 0} (f : X → ℕ) (o : Option X) → option_map f o ≡ None → is_some o ≡ false
not_found f None e = refl
not_found f (Some x) e = absurd cc

is_built : (plan : Plan) → unbuilt_line plan.events ≡ None → IsBuilt plan
unfolding unbuilt_line
is_built plan e = find_none (λ (event : Event). is_comeback event.what) plan.events (not_found (λ (event : Event). event.line) _ e)

-- ---- the whole

pub plan_is : (plan : Plan) → AreParts plan → events_fault plan.end no_failures plan.events ≡ None → unbuilt_line plan.events ≡ None → IsPlan plan
plan_is plan parts order built =
    let second = ordered plan.end no_failures plan.events order in
    record {
      end_low = parts.end.0;
      end_high = parts.end.1;
      modules = parts.modules;
      events = parts.events;
      before_end = second.before;
      rising = parts.events.rising;
      order = second.order;
      built = is_built plan built;
    }

-- ---- inputs are below byte 1,024

pub found_in : {X : Type 0} (p : X → Bool) (xs : List X) (x : X) → find p xs ≡ Some x → (k : ℕ) × (get_or xs k x ≡ x) × (k < length xs) × (p x ≡ true)
found_in p [] x e = absurd cc
found_in p (y ∷ ys) x e = by_test (λ later. found_in p ys x later) (p y) refl (e)
  where
    by_test : (find p ys ≡ Some x → (k : ℕ) × (get_or ys k x ≡ x) × (k < length ys) × (p x ≡ true)) → (t : Bool) → p y ≡ t → cond t (Some y) (find p ys) ≡ Some x
        → (k : ℕ) × (get_or (y ∷ ys) k x ≡ x) × (k < length (y ∷ ys)) × (p x ≡ true)
    by_test deeper true is found = let same : y ≡ x = some_is y x found in (0, same, omega arith, subst (λ z. p z ≡ true) same is)
    by_test deeper false is found = let later = deeper found in (suc later.0, later.1, omega (arith, later.2), later.3)

has_byte : (modules : List Module) (at_byte : ℕ) (side : Option Side) (o : Option Module) → AreModules modules → find (has_input at_byte) modules ≡ o → HasFitting o side → at_byte < 1024
has_byte modules at_byte side None are is fits = absurd fits
has_byte modules at_byte side (Some m) are is fits =
    let there = found_in (has_input at_byte) modules m is in
    let form : IsModule m = subst IsModule there.1 (are.form there.0 m there.2) in
    let tests = and_parts (m.input && nat_le m.at_byte at_byte) (nat_lt at_byte (m.at_byte + m.len)) there.3 in
    let below : at_byte < m.at_byte + m.len = ltb-true at_byte (m.at_byte + m.len) tests.1 in
    omega (arith, below, form.within)

is_below : (modules : List Module) (what : What) → AreModules modules → HasModule modules what → IsBelow what
is_below modules (Input at_byte side value) are has = has_byte modules at_byte side (find (has_input at_byte) modules) are refl has
is_below modules (Alarm ob info) are has = tt
is_below modules (Job job) are has = tt
is_below modules (Fail side late) are has = tt
is_below modules (Return side fresh) are has = tt
is_below modules (Suspect side pass) are has = tt

pub are_below : (plan : Plan) → IsPlan plan → All (λ event. IsBelow event.what) plan.events
are_below plan is = All-weaker (λ (e : Event). HasModule plan.modules e.what) (λ (e : Event). IsBelow e.what) (λ e has. is_below plan.modules e.what is.modules has) plan.events is.events.inputs
