-- The index gives what a scan of the events gives.
use Rattle.std.proofs.Common.{◌≡◌, ℕ, zero, suc, ◌+◌, ◌*◌, ◌≤◌, ◌<◌, Bool, true, false, cond, eqb, eq-eqb, List, [], ◌∷◌, ◌++◌, length, take, drop, get_or, set, Option, Some, None, inl, inr, refl, sym, ◌∙◌, ap, subst, arith, add-one}
use Rattle.std.specs.Prelude.{◌&&◌, nat_le, All}
use Rattle.std.specs.List.{fold, AllPairs}
use Rattle.std.specs.Option.{option_or}
use Rattle.std.proofs.lemmas.Bool.{cases_eq, eqb-true, eqb-false, le-leb, lt-leb, and_parts}
use Rattle.std.proofs.lemmas.List.{length-set, get_or-set_same, get_or-set_other, take-append-drop, get_or-drop, length-drop, length-append, get_or_default, get_or_past}
use Rattle.std.proofs.lemmas.List.Sums.{fold-append}
use Rattle.std.proofs.Math.Seq.{take-suc}
use Rattle.s7_events.specs.declared.entry.Side.{Side}
use Rattle.s7_events.specs.declared.entry.Side.TheVariants.{A, B}
use Rattle.plant_script.specs.declared.plan.Event.{Event}
use Rattle.plant_script.specs.declared.plan.What.{What}
use Rattle.plant_script.specs.declared.plan.What.TheVariants.{Input, Alarm, Job, Fail, Return, Suspect}
use Rattle.plant_script.specs.declared.input_index.Setting.{Setting}
use Rattle.plant_script.specs.Values.{same_choice, value_given, value_by_event, last_value}
use Rattle.plant_script.specs.InputIndex.{slot_of, with_setting, settings_of, last_setting, AreRising, IsSplitAt, IsBelow, with_what, with_event, AreEmpty, IsIndex}
use Rattle.plant_script.proofs.Rising.{Rising, all_rising, rising_pairs}

-- ---- the search in a slot

module _ (moment : ℕ) where
  abbrev step : Option ℕ → Setting → Option ℕ
  step before s = cond (nat_le s.moment moment) (Some s.value) before

  later_ones : (settings : List Setting) (before : Option ℕ) → All (λ s. moment < s.moment) settings → fold step before settings ≡ before
  later_ones [] before all = refl
  later_ones (s ∷ ss) before all =
      let late : moment < s.moment = all 0 s (omega arith) in
      let test : nat_le s.moment moment ≡ false = lt-leb s.moment moment late in
      rw test (later_ones ss before (λ k d lt. all (suc k) d (omega arith)))

  behind_all : (settings : List Setting) (place : ℕ) → IsSplitAt moment settings place → All (λ s. moment < s.moment) (drop place settings)
  behind_all settings place split k d lt =
      rw get_or-drop (split.behind d (place + k) (omega arith) (omega (arith, length-drop place settings)))

  front_decides : (settings : List Setting) (place : ℕ) → IsSplitAt moment settings place → last_setting settings moment ≡ fold step None (take place settings)
  front_decides settings place split =
      ap (λ (ss : List Setting). fold step None ss) (sym (take-append-drop place settings))
      ∙ fold-append step None (take place settings) (drop place settings)
      ∙ later_ones (drop place settings) (fold step None (take place settings)) (behind_all settings place split)

  pub none_until : (settings : List Setting) (place : ℕ) → IsSplitAt moment settings place → place ≡ 0 → last_setting settings moment ≡ None
  none_until settings place split is = front_decides settings place split ∙ ap (λ (n : ℕ). fold step None (take n settings)) is

  last_of_front : (settings : List Setting) (k : ℕ) (d : Setting) → k < length settings → (get_or settings k d).moment ≤ moment → fold step None (take (suc k) settings) ≡ Some (get_or settings k d).value
  last_of_front settings k d lt due =
      let test : nat_le (get_or settings k d).moment moment ≡ true = le-leb (get_or settings k d).moment moment due in
      ap (λ (ss : List Setting). fold step None ss) (take-suc settings k d lt)
      ∙ fold-append step None (take k settings) (get_or settings k d ∷ [])
      ∙ ap (λ (b : Bool). cond b (Some (get_or settings k d).value) (fold step None (take k settings))) test

  pub last_until : (settings : List Setting) (place k : ℕ) (d : Setting) → IsSplitAt moment settings place → place ≡ suc k → place ≤ length settings → last_setting settings moment ≡ Some (get_or settings k d).value
  last_until settings place k d split is within =
      front_decides settings place split ∙ ap (λ (n : ℕ). fold step None (take n settings)) is
      ∙ last_of_front settings k d (omega arith) (split.before d k (omega arith))

-- ---- what the events give a byte

settings_more : (at_byte : ℕ) (side : Option Side) (es : List Event) (e : Event)
    → settings_of at_byte side (es ++ e ∷ []) ≡ settings_of at_byte side es ++ with_setting (value_given at_byte side e.what) e.moment []
settings_more at_byte side [] e = refl
settings_more at_byte side (x ∷ es) e = by_value (value_given at_byte side x.what) (settings_more at_byte side es e)
  where
    by_value : (o : Option ℕ) → settings_of at_byte side (es ++ e ∷ []) ≡ settings_of at_byte side es ++ with_setting (value_given at_byte side e.what) e.moment []
        → with_setting o x.moment (settings_of at_byte side (es ++ e ∷ [])) ≡ with_setting o x.moment (settings_of at_byte side es) ++ with_setting (value_given at_byte side e.what) e.moment []
    by_value None deeper = deeper
    by_value (Some v) deeper = ap (λ (ss : List Setting). record { moment = x.moment; value = v } ∷ ss) deeper

same_is : (s t : Option Side) → same_choice s t ≡ true → s ≡ t
same_is None None e = refl
same_is None (Some A) e = absurd cc
same_is None (Some B) e = absurd cc
same_is (Some A) None e = absurd cc
same_is (Some A) (Some A) e = refl
same_is (Some A) (Some B) e = absurd cc
same_is (Some B) None e = absurd cc
same_is (Some B) (Some A) e = absurd cc
same_is (Some B) (Some B) e = refl

and_true : (b : Bool) → (b && true) ≡ b
and_true true = refl
and_true false = refl

apart_bytes : (p q : ℕ) → (eqb p q && true) ≡ false → p ≡ q → ⊥
apart_bytes p q e = eqb-false p q (sym (and_true (eqb p q)) ∙ e)

-- another byte or side has another slot
apart : (p q : ℕ) (s t : Option Side) → (eqb p q && same_choice s t) ≡ false → slot_of q t ≡ slot_of p s → ⊥
apart p q None None e same = apart_bytes p q e (omega arith)
apart p q None (Some A) e same = absurd (omega arith)
apart p q None (Some B) e same = absurd (omega arith)
apart p q (Some A) None e same = absurd (omega arith)
apart p q (Some A) (Some A) e same = apart_bytes p q e (omega arith)
apart p q (Some A) (Some B) e same = absurd (omega arith)
apart p q (Some B) None e same = absurd (omega arith)
apart p q (Some B) (Some A) e same = absurd (omega arith)
apart p q (Some B) (Some B) e same = apart_bytes p q e (omega arith)

within : (p : ℕ) (s : Option Side) → p < 1024 → slot_of p s < 3072
within p None lt = omega arith
within p (Some A) lt = omega arith
within p (Some B) lt = omega arith

nothing_more : (ss : List Setting) → ss ≡ ss ++ []
nothing_more [] = refl
nothing_more (s ∷ ss) = ap (λ (l : List Setting). s ∷ l) (nothing_more ss)

module _ (slots : List (List Setting)) (es : List Event) (moment number : ℕ) (is : IsIndex slots es) where
  abbrev at_moment : What → Event
  at_moment what = record { moment = moment; line = number; what = what }

  abbrev slot : ℕ → Option Side → List Setting
  slot q t = get_or slots (slot_of q t) []

  stays : (what : What) → ((q : ℕ) (t : Option Side) → value_given q t what ≡ None) → IsIndex slots (es ++ at_moment what ∷ [])
  stays what none = record {
    size = is.size;
    each = λ q t. is.each q t ∙ nothing_more (settings_of q t es)
        ∙ ap (λ (o : Option ℕ). settings_of q t es ++ with_setting o moment []) (sym (none q t)) ∙ sym (settings_more q t es (at_moment what));
  }

  module _ (p : ℕ) (s : Option Side) (v : ℕ) (below : p < 1024) where
    abbrev added : List (List Setting)
    added = set slots (slot_of p s) (slot p s ++ record { moment = moment; value = v } ∷ [])

    each_slot : (q : ℕ) (t : Option Side) (b : Bool) → (eqb p q && same_choice s t) ≡ b → get_or added (slot_of q t) [] ≡ settings_of q t es ++ with_setting (cond b (Some v) None) moment []
    each_slot q t true test =
        let parts = and_parts (eqb p q) (same_choice s t) test in
        let one : p ≡ q = eqb-true p q parts.0 in
        let two : s ≡ t = same_is s t parts.1 in
        let here : slot_of q t ≡ slot_of p s = ap (λ n. slot_of n t) (sym one) ∙ ap (λ o. slot_of p o) (sym two) in
        let lt : slot_of p s < length slots = let w = within p s below in omega (arith, w, is.size) in
        let same : slot p s ≡ settings_of q t es = is.each p s ∙ ap (λ n. settings_of n s es) one ∙ ap (λ o. settings_of q o es) two in
        ap (λ n. get_or added n []) here ∙ get_or-set_same slots (slot_of p s) (slot p s ++ record { moment = moment; value = v } ∷ []) [] lt
        ∙ ap (λ (ss : List Setting). ss ++ record { moment = moment; value = v } ∷ []) same
    each_slot q t false test =
        get_or-set_other slots (slot_of p s) (slot_of q t) (slot p s ++ record { moment = moment; value = v } ∷ []) [] (apart p q s t test)
        ∙ is.each q t ∙ nothing_more (settings_of q t es)

    one_added : IsIndex added (es ++ at_moment (Input p s v) ∷ [])
    one_added = record {
      size = length-set slots (slot_of p s) (slot p s ++ record { moment = moment; value = v } ∷ []) ∙ is.size;
      each = λ q t. each_slot q t (eqb p q && same_choice s t) refl ∙ sym (settings_more q t es (at_moment (Input p s v)));
    }

  what_added : (what : What) → IsBelow what → IsIndex (with_what slots moment what) (es ++ at_moment what ∷ [])
  what_added (Input p s v) below = one_added p s v below
  what_added (Alarm ob info) below = stays (Alarm ob info) (λ q t. refl)
  what_added (Job job) below = stays (Job job) (λ q t. refl)
  what_added (Fail side late) below = stays (Fail side late) (λ q t. refl)
  what_added (Return side fresh) below = stays (Return side fresh) (λ q t. refl)
  what_added (Suspect side pass) below = stays (Suspect side pass) (λ q t. refl)

pub event_added : (slots : List (List Setting)) (es : List Event) (e : Event) → IsIndex slots es → IsBelow e.what → IsIndex (with_event slots e) (es ++ e ∷ [])
event_added slots es e is below = what_added slots es e.moment e.line is e.what below

pub nothing_added : (slots : List (List Setting)) → AreEmpty 3072 slots → IsIndex slots []
nothing_added slots empty = record { size = empty.size; each = λ q t. empty.none (slot_of q t) }

-- ---- the scan

module _ (at_byte : ℕ) (side : Option Side) (moment : ℕ) where
  abbrev scan : Option ℕ → Event → Option ℕ
  scan before event = option_or (value_by_event at_byte side moment event) before

  by_given : (time : ℕ) (o before : Option ℕ) (others : List Setting) (t : Bool) → nat_le time moment ≡ t
      → fold (step moment) (option_or (cond t o None) before) others ≡ fold (step moment) before (with_setting o time others)
  by_given time None before others true test = refl
  by_given time None before others false test = refl
  by_given time (Some v) before others true test = ap (λ (b : Bool). fold (step moment) (cond b (Some v) before) others) (sym test)
  by_given time (Some v) before others false test = ap (λ (b : Bool). fold (step moment) (cond b (Some v) before) others) (sym test)

  same_scan : (events : List Event) (before : Option ℕ) → fold scan before events ≡ fold (step moment) before (settings_of at_byte side events)
  same_scan [] before = refl
  same_scan (e ∷ es) before =
      same_scan es (scan before e)
      ∙ by_given e.moment (value_given at_byte side e.what) before (settings_of at_byte side es) (nat_le e.moment moment) refl

  pub scan_is_search : (events : List Event) → last_value events at_byte side moment ≡ last_setting (settings_of at_byte side events) moment
  scan_is_search events = same_scan events None

-- ---- moments that do not fall

lower_floor : (low high : ℕ) (es : List Event) → low ≤ high → Rising (λ (e : Event). e.moment) high es → Rising (λ (e : Event). e.moment) low es
lower_floor low high [] le rising = tt
lower_floor low high (e ∷ es) le rising = (let above : high ≤ e.moment = rising.0 in omega arith, rising.1)

settings_rising : (at_byte : ℕ) (side : Option Side) (floor : ℕ) (es : List Event) → Rising (λ (e : Event). e.moment) floor es → Rising (λ (s : Setting). s.moment) floor (settings_of at_byte side es)
settings_rising at_byte side floor [] rising = tt
settings_rising at_byte side floor (e ∷ es) rising =
    by_value (value_given at_byte side e.what) rising.0 (settings_rising at_byte side e.moment es rising.1) (settings_rising at_byte side floor es (lower_floor floor e.moment es rising.0 rising.1))
  where
    by_value : (o : Option ℕ) → floor ≤ e.moment → Rising (λ (s : Setting). s.moment) e.moment (settings_of at_byte side es) → Rising (λ (s : Setting). s.moment) floor (settings_of at_byte side es)
        → Rising (λ (s : Setting). s.moment) floor (with_setting o e.moment (settings_of at_byte side es))
    by_value None low here other = other
    by_value (Some v) low here other = (low, here)

pub are_rising : (at_byte : ℕ) (side : Option Side) (es : List Event) → AllPairs (λ earlier later. earlier.moment ≤ later.moment) es → AreRising (settings_of at_byte side es)
are_rising at_byte side es pairs = rising_pairs (λ (s : Setting). s.moment) 0 (settings_of at_byte side es) (settings_rising at_byte side 0 es (all_rising (λ (e : Event). e.moment) es pairs))

-- ---- halving a slot

strictly : (k m : ℕ) → k < m + 1 → (k ≡ m → ⊥) → k < m
strictly k m lt other = omega arith

-- whatever stands for what is past the end
pub read_is : {X : Type 0} (xs : List X) (i : ℕ) (e : X) → e ≡ get_or xs i e → i < length xs → (d : X) → e ≡ get_or xs i d
read_is xs i e is inside d = is ∙ get_or_default xs i e d inside

pub lower_half : (settings : List Setting) (middle moment : ℕ) (e : Setting) → AreRising settings → middle < length settings → e ≡ get_or settings middle e → e.moment ≤ moment
    → (d : Setting) (k : ℕ) → k < middle + 1 → (get_or settings k d).moment ≤ moment
lower_half settings middle moment e rising inside is due d k lt =
    let here : (get_or settings middle d).moment ≤ moment = subst (λ (s : Setting). s.moment ≤ moment) (read_is settings middle e is inside d) due in
    elim (cases_eq k middle) [
      | inl same ↦ subst (λ (n : ℕ). (get_or settings n d).moment ≤ moment) (sym same) here
      | inr other ↦ let below : k < middle = strictly k middle lt other in let low = rising k middle d below inside in omega (arith, low, here)
    ]

pub upper_half : (settings : List Setting) (middle moment : ℕ) (e : Setting) → AreRising settings → middle < length settings → e ≡ get_or settings middle e → moment < e.moment
    → (d : Setting) (k : ℕ) → middle ≤ k → k < length settings → moment < (get_or settings k d).moment
upper_half settings middle moment e rising inside is late d k le lt =
    let here : moment < (get_or settings middle d).moment = subst (λ (s : Setting). moment < s.moment) (read_is settings middle e is inside d) late in
    elim (cases_eq middle k) [
      | inl same ↦ subst (λ (n : ℕ). moment < (get_or settings n d).moment) same here
      | inr other ↦ let above : middle < k = strictly middle k (omega arith) other in let low = rising middle k d above lt in omega (arith, low, here)
    ]

-- ---- slots without values

still_empty : (slots : List (List Setting)) (k : ℕ) → ((i : ℕ) → get_or slots i [] ≡ []) → get_or (slots ++ [] ∷ []) k [] ≡ []
still_empty [] zero none = refl
still_empty [] (suc k) none = refl
still_empty (s ∷ ss) zero none = none 0
still_empty (s ∷ ss) (suc k) none = still_empty ss k (λ i. none (suc i))

pub one_empty_more : (slots : List (List Setting)) (n : ℕ) (slot : List Setting) → AreEmpty n slots → slot ≡ [] → AreEmpty (n + 1) (slots ++ slot ∷ [])
one_empty_more slots n slot empty is =
    record {
      size = omega (arith, empty.size, length-append slots (slot ∷ []));
      none = λ k. subst (λ (s : List Setting). get_or (slots ++ s ∷ []) k [] ≡ []) (sym is) (still_empty slots k empty.none);
    }

pub no_slots : (slots : List (List Setting)) → slots ≡ [] → AreEmpty 0 slots
no_slots [] is = record { size = refl; none = λ k. refl }
no_slots (s ∷ ss) is = absurd cc

-- ---- a look-up

pub none_past : (slots : List (List Setting)) (events : List Event) (at_byte : ℕ) (side : Option Side) (moment : ℕ) → IsIndex slots events → length slots ≤ slot_of at_byte side → None ≡ last_value events at_byte side moment
none_past slots events at_byte side moment is past =
    sym (scan_is_search at_byte side moment events
    ∙ ap (λ (ss : List Setting). last_setting ss moment) (sym (is.each at_byte side) ∙ get_or_past slots (slot_of at_byte side) [] past))

pub slot_is : (slots : List (List Setting)) (events : List Event) (at_byte : ℕ) (side : Option Side) (slot : List Setting) → IsIndex slots events → slot_of at_byte side < length slots
    → slot ≡ get_or slots (slot_of at_byte side) slot → slot ≡ settings_of at_byte side events
slot_is slots events at_byte side slot is inside read = read_is slots (slot_of at_byte side) slot read inside [] ∙ is.each at_byte side

pub found : (slots : List (List Setting)) (events : List Event) (at_byte : ℕ) (side : Option Side) (moment : ℕ) (slot : List Setting) (result : Option ℕ)
    → slot ≡ settings_of at_byte side events → AllPairs (λ earlier later. earlier.moment ≤ later.moment) events → (AreRising slot → result ≡ last_setting slot moment)
    → result ≡ last_value events at_byte side moment
found slots events at_byte side moment slot result is rising searched =
    searched (subst AreRising (sym is) (are_rising at_byte side events rising))
    ∙ ap (λ (ss : List Setting). last_setting ss moment) is ∙ sym (scan_is_search at_byte side moment events)

-- ---- one event more

pub turn_added : (slots new : List (List Setting)) (events : List Event) (i : ℕ) (d : Event) → IsIndex slots (take i events) → i < length events → IsBelow (get_or events i d).what
    → new ≡ with_event slots (get_or events i d) → IsIndex new (take (i + 1) events)
turn_added slots new events i d is lt below e =
    let added = event_added slots (take i events) (get_or events i d) is below in
    let front : take (i + 1) events ≡ take i events ++ get_or events i d ∷ [] = rw add-one (take-suc events i d lt) in
    rw (e, front) added
