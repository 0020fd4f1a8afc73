-- The script's lines are applied as the moments go on.
use Rattle.std.proofs.Common.{◌≡◌, ◌∙◌, ℕ, zero, suc, ◌+◌, ◌<◌, ◌≤◌, true, false, List, [], ◌∷◌, ◌++◌, length, take, drop, get_or, nat_le, refl, ap, sym, subst, arith}
use Rattle.std.specs.Prelude.{if◌then◌else◌, All}
use Rattle.std.specs.List.{AllPairs}
use Rattle.std.proofs.lemmas.Bool.Decides.{nat_tests}
use Rattle.std.proofs.lemmas.List.{take-append-drop, take_more, get_or-drop, get_or_default, length-drop}
use Rattle.std.proofs.lemmas.List.Elements.{All-nil, All-cons, All-head, All-tail, All-append, All-weaker}
use Rattle.s7_events.specs.declared.entry.Side.{Side}
use Rattle.s7_events.specs.declared.entry.Side.TheVariants.{A, B}
use Rattle.plant_script.specs.declared.plan.Event.{Event}
use Rattle.plant_script.specs.Plan.{Plan}
use Rattle.pair_core.specs.declared.cuts.Cuts.{Cuts}
use Rattle.pair_core.specs.declared.cuts.Soundness.{Soundness}
use Rattle.pair_core.specs.declared.cuts.Soundness.TheVariants.{Sound}
use Rattle.pair_core.specs.declared.sides.Sides.{Sides}
use Rattle.pair_core.specs.Sides.{of_side}
use Rattle.pair_core.specs.Cuts.{by_line, soundness, soundness_from}
use Rattle.pair_core.specs.CutsKept.{IsCutsBefore, IsCutsAt}

abbrev Passed : ℕ → List Event → Type 0
Passed moment es = All (λ (event : Event). event.moment ≤ moment) es

abbrev Later : ℕ → List Event → Type 0
Later moment es = All (λ (event : Event). moment < event.moment) es

soundness_append : (before : Soundness) (xs ys : List Event) (s : Side) (m : ℕ) → soundness_from before (xs ++ ys) s m ≡ soundness_from (soundness_from before xs s m) ys s m
soundness_append before [] ys s m = refl
soundness_append before (x ∷ xs) ys s m = soundness_append (if nat_le x.moment m then by_line x.what s before else before) xs ys s m

-- later lines make nothing of a side
later_none : (before : Soundness) (es : List Event) (s : Side) (m : ℕ) → Later m es → soundness_from before es s m ≡ before
later_none before [] s m later = refl
later_none before (x ∷ xs) s m later =
    let after : m < x.moment = All-head (λ (event : Event). m < event.moment) x xs later in
    let test : nat_le x.moment m ≡ false = grind (arith, nat_tests) in
    rw test (later_none before xs s m (All-tail (λ (event : Event). m < event.moment) x xs later))

-- lines that have passed make the same of it at a later moment
passed_any : (before : Soundness) (es : List Event) (s : Side) (m n : ℕ) → m ≤ n → Passed m es → soundness_from before es s m ≡ soundness_from before es s n
passed_any before [] s m n le passed = refl
passed_any before (x ∷ xs) s m n le passed =
    let here : x.moment ≤ m = All-head (λ (event : Event). event.moment ≤ m) x xs passed in
    let first : nat_le x.moment m ≡ true = grind (arith, nat_tests) in
    let second : nat_le x.moment n ≡ true = grind (arith, nat_tests) in
    rw (first, second) (passed_any (by_line x.what s before) xs s m n le (All-tail (λ (event : Event). event.moment ≤ m) x xs passed))

-- where the other lines are later, those that were applied are all that count
applied_all : (plan : Plan) (k : ℕ) (s : Side) (m : ℕ) → Later m (drop k plan.events) → soundness_from Sound (take k plan.events) s m ≡ soundness plan s m
applied_all plan k s m later =
    sym (later_none (soundness_from Sound (take k plan.events) s m) (drop k plan.events) s m later)
    ∙ (sym (soundness_append Sound (take k plan.events) (drop k plan.events) s m) ∙ ap (λ (es : List Event). soundness_from Sound es s m) (take-append-drop k plan.events))

-- what was applied up to a moment may go on to a later one
pub goes_on : (plan : Plan) (m n : ℕ) (cuts : Cuts) → m ≤ n → IsCutsAt plan m cuts → IsCutsBefore plan n cuts
goes_on plan m n cuts le h = record {
  within = h.within;
  passed = All-weaker (λ (event : Event). event.moment ≤ m) (λ (event : Event). event.moment ≤ n) (λ event early. omega arith) (take cuts.applied plan.events) h.passed;
  sides = λ s. h.sides s ∙ (sym (applied_all plan cuts.applied s m h.due) ∙ passed_any Sound (take cuts.applied plan.events) s m n le h.passed);
}

-- nothing is applied at first
pub nothing_applied : (plan : Plan) (m : ℕ) → IsCutsBefore plan m (record { applied = 0; made = record { a = Sound; b = Sound } })
nothing_applied plan m = record {
  within = omega arith;
  passed = All-nil (λ (event : Event). event.moment ≤ m);
  sides = λ s. elim s as (λ t. of_side (record { a = Sound; b = Sound }) t ≡ soundness_from Sound (take 0 plan.events) t m) [ A ↦ refl | B ↦ refl ];
}

-- a line more is applied
pub one_applied : (plan : Plan) (m : ℕ) (cuts : Cuts) (e : Event) → IsCutsBefore plan m cuts → cuts.applied < length plan.events → e ≡ get_or plan.events cuts.applied e → e.moment ≤ m
    → IsCutsBefore plan m (record { applied = cuts.applied + 1; made = record { a = by_line e.what A cuts.made.a; b = by_line e.what B cuts.made.b } })
one_applied plan m cuts e h less here due =
    let k = cuts.applied in
    let new : Cuts = record { applied = k + 1; made = record { a = by_line e.what A cuts.made.a; b = by_line e.what B cuts.made.b } } in
    let more : take (k + 1) plan.events ≡ take k plan.events ++ e ∷ [] = take_more plan.events k e less ∙ ap (λ (x : Event). take k plan.events ++ x ∷ []) (sym here) in
    let test : nat_le e.moment m ≡ true = grind (arith, nat_tests) in
    let one : (s : Side) → soundness_from Sound (take (k + 1) plan.events) s m ≡ by_line e.what s (soundness_from Sound (take k plan.events) s m) =
    λ s. ap (λ (es : List Event). soundness_from Sound es s m) more ∙ (soundness_append Sound (take k plan.events) (e ∷ []) s m ∙ ap (λ b. if b then by_line e.what s (soundness_from Sound (take k plan.events) s m) else soundness_from Sound (take k plan.events) s m) test) in
    record {
      within = omega (arith, less);
      passed = subst (Passed m) (sym more) (All-append (λ (event : Event). event.moment ≤ m) (take k plan.events) (e ∷ []) h.passed (All-cons (λ (event : Event). event.moment ≤ m) e [] due (All-nil (λ (event : Event). event.moment ≤ m))));
      sides = λ s. elim s as (λ t. of_side new.made t ≡ soundness_from Sound (take (k + 1) plan.events) t m) [
        | A ↦ ap (by_line e.what A) (h.sides A) ∙ sym (one A)
        | B ↦ ap (by_line e.what B) (h.sides B) ∙ sym (one B)
      ];
    }

-- where the next line is later, all that are left are
later_rest : (es : List Event) (k m : ℕ) (e : Event) → AllPairs (λ earlier later. earlier.moment ≤ later.moment) es → k < length es → e ≡ get_or es k e → m < e.moment → Later m (drop k es)
later_rest es k m e rising less here later zero d lt =
    let at_first : get_or (drop k es) 0 d ≡ get_or es (k + 0) d = get_or-drop k es 0 d in
    let zeroth : k + 0 ≡ k = omega arith in
    let same : get_or es (k + 0) d ≡ get_or es k e = ap (λ n. get_or es n d) zeroth ∙ get_or_default es k d e less in
    let is : get_or (drop k es) 0 d ≡ e = at_first ∙ (same ∙ sym here) in
    subst (λ (x : Event). m < x.moment) (sym is) later
later_rest es k m e rising less here later (suc i) d lt =
    let long : length (drop k es) + k ≡ length es = omega (arith, length-drop k es) in
    let is : get_or (drop k es) (suc i) d ≡ get_or es (k + suc i) d = get_or-drop k es (suc i) d in
    let above : (get_or es k d).moment ≤ (get_or es (k + suc i) d).moment = rising k (k + suc i) d (omega arith) (omega (arith, long, lt)) in
    let first : get_or es k d ≡ e = get_or_default es k d e less ∙ sym here in
    let floor : e.moment ≤ (get_or es (k + suc i) d).moment = subst (λ (x : Event). x.moment ≤ (get_or es (k + suc i) d).moment) first above in
    subst (λ (x : Event). m < x.moment) (sym is) (omega (arith, floor, later))

-- and so the lines are applied up to the moment
pub all_due : (plan : Plan) (m : ℕ) (cuts : Cuts) → IsCutsBefore plan m cuts → Later m (drop cuts.applied plan.events) → IsCutsAt plan m cuts
all_due plan m cuts h due = record {
  within = h.within;
  passed = h.passed;
  due = due;
  sides = λ s. h.sides s ∙ applied_all plan cuts.applied s m due;
}

-- the next line is later: the lines are applied up to the moment
pub stops_here : (plan : Plan) (m : ℕ) (cuts : Cuts) (events : List Event) (k : ℕ) (d : Event) → events ≡ plan.events → cuts.applied ≡ k → k < length events → m < (get_or events k d).moment
    → AllPairs (λ earlier later. earlier.moment ≤ later.moment) plan.events → IsCutsBefore plan m cuts → IsCutsAt plan m cuts
stops_here plan m cuts events k d same place less later rising h =
    let e = get_or events k d in
    let within : k < length plan.events = subst (λ (es : List Event). k < length es) same less in
    let here : e ≡ get_or plan.events k e = ap (λ (es : List Event). get_or es k d) same ∙ get_or_default plan.events k d e within in
    all_due plan m cuts h (subst (λ n. Later m (drop n plan.events)) (sym place) (later_rest plan.events k m e rising within here later))

-- the next line has passed: it is applied
pub goes_by : (plan : Plan) (m : ℕ) (cuts : Cuts) (events : List Event) (k : ℕ) (d : Event) (a b : Soundness) → events ≡ plan.events → cuts.applied ≡ k → k < length events → (get_or events k d).moment ≤ m
    → a ≡ by_line (get_or events k d).what A cuts.made.a → b ≡ by_line (get_or events k d).what B cuts.made.b → IsCutsBefore plan m cuts → IsCutsBefore plan m (record { applied = k + 1; made = record { a = a; b = b } })
goes_by plan m cuts events k d a b same place less due is_a is_b h =
    let e = get_or events k d in
    let within : k < length plan.events = subst (λ (es : List Event). k < length es) same less in
    let here : e ≡ get_or plan.events k e = ap (λ (es : List Event). get_or es k d) same ∙ get_or_default plan.events k d e within in
    let next : IsCutsBefore plan m (record { applied = cuts.applied + 1; made = record { a = by_line e.what A cuts.made.a; b = by_line e.what B cuts.made.b } }) =
    one_applied plan m cuts e h (subst (λ n. n < length plan.events) (sym place) within) (here ∙ ap (λ n. get_or plan.events n e) (sym place)) due in
    let new : Cuts = record { applied = k + 1; made = record { a = a; b = b } } in
    let all : record { applied = cuts.applied + 1; made = record { a = by_line e.what A cuts.made.a; b = by_line e.what B cuts.made.b } } ≡ new =
    ap (λ n. record { applied = n + 1; made = record { a = by_line e.what A cuts.made.a; b = by_line e.what B cuts.made.b } }) place
    ∙ (ap (λ x. record { applied = k + 1; made = record { a = x; b = by_line e.what B cuts.made.b } }) (sym is_a) ∙ ap (λ x. record { applied = k + 1; made = record { a = a; b = x } }) (sym is_b)) in
    subst (IsCutsBefore plan m) all next

-- no line is left
pub none_left : (plan : Plan) (m : ℕ) (cuts : Cuts) → length plan.events ≤ cuts.applied → IsCutsBefore plan m cuts → IsCutsAt plan m cuts
none_left plan m cuts all h = all_due plan m cuts h (λ k d less. absurd (omega (arith, all, less, length-drop cuts.applied plan.events)))
