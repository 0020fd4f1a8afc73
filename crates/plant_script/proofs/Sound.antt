-- A line without fault keeps what was read in its form.
use Rattle.std.proofs.Common.{◌≡◌, ℕ, suc, ◌+◌, ◌≤◌, ◌<◌, Bool, true, false, cond, List, [], ◌∷◌, ◌++◌, length, get_or, min, Option, Some, None, refl, sym, ◌∙◌, ap, subst, arith}
use Rattle.std.specs.Str.{all_ascii_digits}
use Rattle.std.specs.Prelude.{All, Result, Ok, Err, IfOk, IfSome, IsTrue, not, ◌&&◌, ◌||◌, ◌==◌, is_some, nat_le, nat_lt, sum_by}
use Rattle.std.specs.List.{AllPairs, find}
use Rattle.std.proofs.lemmas.Bool.{leb-true, leb-false, ltb-false}
use Rattle.std.proofs.lemmas.List.Elements.{All-nil, All-cons, All-push, All-weaker}
use Rattle.std.proofs.lemmas.List.Quantifiers.{all_pairs_push}
use Rattle.std.proofs.lemmas.List.Sums.{sum_by-append}
use Rattle.plant_script.specs.declared.plan.Module.{Module}
use Rattle.plant_script.specs.declared.plan.Event.{Event}
use Rattle.plant_script.specs.declared.plan.What.{What}
use Rattle.plant_script.specs.declared.plan.What.TheVariants.{Input, Alarm, Job, Fail, Return, Suspect}
use Rattle.plant_script.specs.declared.lines.Line.{Line}
use Rattle.plant_script.specs.declared.lines.Line.TheVariants.{Skipped, Module as IsModuleLine, At, End}
use Rattle.plant_script.specs.Words.{is_empty}
use Rattle.plant_script.specs.Numbers.{value_of, is_number, number_within}
use Rattle.plant_script.specs.Form.{IsModule, IsWritten, IsLine}
use Rattle.plant_script.specs.Plan.{has_input, fits_side, shares_byte, is_comeback, comebacks, HasFitting, HasModule, AreModules, AreEvents}
use Rattle.plant_script.specs.FirstPass.{Reading, nothing_read, has_wrong_side, is_bad_line, is_bad_time, goes_back, overlaps, lacks_module, has_no_module, is_one_more, is_too_long, line_fault, event_of, with_line}
use Rattle.plant_script.specs.declared.script_error.ScriptError.{ScriptError}
use Rattle.plant_script.specs.Gives.{Takes}
use Rattle.plant_script.specs.Sound.{IsEnd, IsSound}

-- no test of a line that has no fault stands
pub record Passes (r : Reading) (number : ℕ) (line : Line) (time : List ℕ) : Type 0 where
  pub place : is_bad_line r line ≡ false
  pub timed : is_bad_time line time ≡ false
  pub back : goes_back r.floor line time ≡ false
  pub apart : overlaps r.modules line ≡ false
  pub held : has_no_module r.modules line ≡ false
  pub long : is_too_long r.events number line ≡ false

next_test : (t : Bool) (kind : ℕ) (o : Option ℕ) → cond t (Some kind) o ≡ None → (t ≡ false) × (o ≡ None)
next_test true kind o e = absurd cc
next_test false kind o e = (refl, e)

last_test : (t : Bool) (kind : ℕ) → cond t (Some kind) None ≡ None → t ≡ false
last_test true kind e = absurd cc
last_test false kind e = refl

pub passes : (r : Reading) (number : ℕ) (line : Line) (time : List ℕ) → line_fault r number line time ≡ None → Passes r number line time
unfolding line_fault
passes r number line time e =
    let a = next_test (is_bad_line r line) _ _ e in
    let b = next_test (is_bad_time line time) _ _ a.1 in
    let c = next_test (goes_back r.floor line time) _ _ b.1 in
    let d = next_test (overlaps r.modules line) _ _ c.1 in
    let f = next_test (has_no_module r.modules line) _ _ d.1 in
    record {
      place = a.0;
      timed = b.0;
      back = c.0;
      apart = d.0;
      held = f.0;
      long = last_test (is_too_long r.events number line) _ f.1;
    }

-- ---- tests

or_false : (a b : Bool) → (a || b) ≡ false → (a ≡ false) × (b ≡ false)
or_false true b e = absurd cc
or_false false b e = (refl, e)

not_false : (a : Bool) → not a ≡ false → a ≡ true
not_false true e = refl
not_false false e = absurd cc

empty_is : (events : List Event) → not (is_empty events) ≡ false → events ≡ []
empty_is [] e = refl
empty_is (x ∷ xs) e = absurd cc

pub find_none : {X : Type 0} (p : X → Bool) (xs : List X) → is_some (find p xs) ≡ false → All (λ x. p x ≡ false) xs
find_none p [] e = All-nil (λ x. p x ≡ false)
find_none p (x ∷ xs) e = by_test (λ later. find_none p xs later) (p x) refl
  where
    by_test : (is_some (find p xs) ≡ false → All (λ y. p y ≡ false) xs) → (t : Bool) → p x ≡ t → All (λ y. p y ≡ false) (x ∷ xs)
    by_test deeper true is = absurd (let found : is_some (find p (x ∷ xs)) ≡ true = rw is refl in let other = e in cc)
    by_test deeper false is = let later : is_some (find p xs) ≡ false = rw is at e in All-cons (λ y. p y ≡ false) x xs is (deeper later)

-- ---- a module

module _ (r : Reading) (number : ℕ) (m : Module) (sound : IsSound r number) (form : IsModule m) (none : r.events ≡ []) (free : is_some (find (shares_byte m) r.modules) ≡ false) where
  more_modules : AreModules (r.modules ++ m ∷ [])
  more_modules = record {
    form = All-push IsModule r.modules m sound.modules.form form;
    apart = all_pairs_push (λ earlier later. shares_byte later earlier ≡ false) r.modules m sound.modules.apart (λ k d lt. find_none (shares_byte m) r.modules free k d lt);
  }

  -- there was no event yet
  same_events : AreEvents (r.modules ++ m ∷ []) r.events
  same_events = record {
    form = sound.events.form;
    inputs = subst (λ (es : List Event). All (λ e. HasModule (r.modules ++ m ∷ []) e.what) es) (sym none) (All-nil (λ (e : Event). HasModule (r.modules ++ m ∷ []) e.what));
    rising = sound.events.rising;
    lines = sound.events.lines;
    comebacks = sound.events.comebacks;
  }

-- ---- an event

has_fitting : (o : Option Module) (sided : Bool) → not (is_some o) ≡ false → elim o [ None ↦ false | Some m ↦ not (fits_side m sided) ] ≡ false → (m : Module) × (o ≡ Some m) × (fits_side m sided ≡ true)
has_fitting None sided some fits = absurd cc
has_fitting (Some m) sided some fits = (m, refl, not_false (fits_side m sided) fits)

has_module : (modules : List Module) (what : What) → lacks_module modules what ≡ false → has_wrong_side modules what ≡ false → HasModule modules what
has_module modules (Input at_byte side value) some fits =
    let found = has_fitting (find (has_input at_byte) modules) (is_some side) some fits in
    subst (λ (o : Option Module). HasFitting o side) (sym found.1) found.2
has_module modules (Alarm ob info) some fits = tt
has_module modules (Job job) some fits = tt
has_module modules (Fail side late) some fits = tt
has_module modules (Return side fresh) some fits = tt
has_module modules (Suspect side pass) some fits = tt

abbrev worth : Event → ℕ
worth x = cond (is_comeback x.what) 1 0

one_more : (events : List Event) (e : Event) → (is_comeback e.what && nat_le 64 (comebacks events)) ≡ false → comebacks events ≤ 64 → comebacks (events ++ e ∷ []) ≤ 64
one_more events e few most = by_test (is_comeback e.what) refl few
  where
    by_test : (t : Bool) → is_comeback e.what ≡ t → (t && nat_le 64 (comebacks events)) ≡ false → comebacks (events ++ e ∷ []) ≤ 64
    by_test true is less =
        let below : comebacks events < 64 = leb-false 64 (comebacks events) less in
        let last : sum_by worth (e ∷ []) ≡ 1 = rw is refl in
        omega (arith, sum_by-append worth events (e ∷ []), last, below)
    by_test false is less =
        let last : sum_by worth (e ∷ []) ≡ 0 = rw is refl in
        omega (arith, sum_by-append worth events (e ∷ []), last)

module _ (r : Reading) (number : ℕ) (what : What) (time : List ℕ) (sound : IsSound r number) (form : IsWritten what)
    (module_is : HasModule r.modules what) (later : nat_lt (value_of time) r.floor ≡ false) (few : (is_comeback what && nat_le 64 (comebacks r.events)) ≡ false) where
  abbrev new : Event
  new = event_of number what time

  above : r.floor ≤ value_of time
  above = ltb-false (value_of time) r.floor later

  more_events : AreEvents r.modules (r.events ++ new ∷ [])
  more_events = record {
    form = All-push (λ (e : Event). IsWritten e.what) r.events new sound.events.form form;
    inputs = All-push (λ (e : Event). HasModule r.modules e.what) r.events new sound.events.inputs module_is;
    rising = all_pairs_push (λ (a b : Event). a.moment ≤ b.moment) r.events new sound.events.rising
        (λ k d lt. let low : (get_or r.events k d).moment ≤ min r.floor 200000 = sound.under k d lt in omega (arith, above));
    lines = all_pairs_push (λ (a b : Event). a.line < b.line) r.events new sound.events.lines (λ k d lt. sound.before k d lt);
    comebacks = one_more r.events new few sound.events.comebacks;
  }

  under_new : All (λ e. e.moment ≤ min (value_of time) 200000) (r.events ++ new ∷ [])
  under_new = All-push (λ (e : Event). e.moment ≤ min (value_of time) 200000) r.events new
      (All-weaker (λ (e : Event). e.moment ≤ min r.floor 200000) (λ (e : Event). e.moment ≤ min (value_of time) 200000) (λ e low. let under : e.moment ≤ min r.floor 200000 = low in omega (arith, above)) r.events sound.under)
      (omega arith)

later_lines : (events : List Event) (number : ℕ) → All (λ e. e.line < number) events → All (λ e. e.line < number + 1) events
later_lines events number all = All-weaker (λ (e : Event). e.line < number) (λ (e : Event). e.line < number + 1) (λ e low. let under : e.line < number = low in omega arith) events all

and_right : (a b : Bool) → (a && b) ≡ true → b ≡ true
and_right true b e = e
and_right false b e = absurd cc

-- the end
is_end : (time : List ℕ) → elim (number_within 200000 time) [ None ↦ true | Some end ↦ nat_lt end 1 ] ≡ false → IfSome (number_within 200000 time) IsEnd
unfolding number_within
is_end time good = by_test (is_number time && nat_le (value_of time) 200000) refl good
  where
    by_test : (t : Bool) → (is_number time && nat_le (value_of time) 200000) ≡ t → elim (cond t (Some (value_of time)) None) [ None ↦ true | Some end ↦ nat_lt end 1 ] ≡ false → IfSome (cond t (Some (value_of time)) None) IsEnd
    by_test true is good' =
        let low : 1 ≤ value_of time = ltb-false (value_of time) 1 good' in
        (low, leb-true (value_of time) 200000 (and_right (is_number time) (nat_le (value_of time) 200000) is))
    by_test false is good' = absurd cc

-- ---- the line

number_is : (time : List ℕ) (t : Bool) → not (is_number time) ≡ false → (is_number time && t) ≡ false → t ≡ false
number_is time t digits e = by_test (is_number time) (not_false (is_number time) digits) e
  where
    by_test : (b : Bool) → b ≡ true → (b && t) ≡ false → t ≡ false
    by_test true is e' = e'
    by_test false is e' = absurd cc

pub sound_step : (r : Reading) (number : ℕ) (line : Line) (time : List ℕ) → IsLine line → line_fault r number line time ≡ None → IsSound r number → IsSound (with_line r number line time) (number + 1)
sound_step r number Skipped time form good sound = record {
  modules = sound.modules;
  events = sound.events;
  under = sound.under;
  before = later_lines r.events number sound.before;
  end = sound.end;
}
sound_step r number (IsModuleLine m) time form good sound =
    let p = passes r number (IsModuleLine m) time good in
    let none = empty_is r.events (or_false (is_some r.end) (not (is_empty r.events)) p.place).1 in
    record {
      modules = more_modules r number m sound form none p.apart;
      events = same_events r number m sound form none p.apart;
      under = sound.under;
      before = later_lines r.events number sound.before;
      end = sound.end;
    }
sound_step r number (At what) time form good sound =
    let p = passes r number (At what) time good in
    let sided = (or_false (is_some r.end) (has_wrong_side r.modules what) p.place).1 in
    let fits = has_module r.modules what p.held sided in
    let later = number_is time (nat_lt (value_of time) r.floor) p.timed p.back in
    let few = (or_false (number == 20001) (is_comeback what && nat_le 64 (comebacks r.events)) p.long).1 in
    record {
      modules = sound.modules;
      events = more_events r number what time sound form fits later few;
      under = under_new r number what time sound form fits later few;
      before = All-push (λ (e : Event). e.line < number + 1) r.events (event_of number what time) (later_lines r.events number sound.before) (omega arith);
      end = sound.end;
    }
sound_step r number End time form good sound =
    let p = passes r number End time good in
    record {
      modules = sound.modules;
      events = sound.events;
      under = sound.under;
      before = later_lines r.events number sound.before;
      end = is_end time p.timed;
    }

-- before the first line
pub sound_first : IsSound nothing_read 1
sound_first = record {
  modules = record { form = All-nil IsModule; apart = λ i j d lt below. absurd (omega arith) };
  events = record {
    form = All-nil (λ (e : Event). IsWritten e.what);
    inputs = All-nil (λ (e : Event). HasModule [] e.what);
    rising = λ i j d lt below. absurd (omega arith);
    lines = λ i j d lt below. absurd (omega arith);
    comebacks = omega arith;
  };
  under = All-nil (λ (e : Event). e.moment ≤ min 0 200000);
  before = All-nil (λ (e : Event). e.line < 1);
  end = tt;
}

-- digits of a moment
pub timed_digits : (line : Line) (what : What) (time : List ℕ) → line ≡ At what → is_bad_time line time ≡ false → all_ascii_digits time ≡ true
unfolding is_number
timed_digits line what time is good =
    let number : not (is_number time) ≡ false = subst (λ (l : Line). is_bad_time l time ≡ false) is good in
    and_right (not (is_empty time)) (all_ascii_digits time) (not_false (is_number time) number)

-- a line that was taken
pub sound_by : {R : Type 0} (view : R → Reading) (result : Result R ScriptError) (r : Reading) (number : ℕ) (line : Line) (time : List ℕ)
    → Takes view result (with_line r number line time) → IsLine line → line_fault r number line time ≡ None
    → IfOk result (λ next. IsSound r number → IsSound (view next) (number + 1))
sound_by view (Ok next) r number line time taken form good = λ sound. subst (λ (q : Reading). IsSound q (number + 1)) (sym taken) (sound_step r number line time form good sound)
sound_by view (Err e) r number line time taken form good = tt
