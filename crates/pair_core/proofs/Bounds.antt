-- How far the readings of a record reach, and which lines count at its end.
use Rattle.std.proofs.Common.{◌≡◌, ℕ, ◌+◌, ◌*◌, ◌<◌, ◌≤◌, Bool, true, false, List, [], ◌∷◌, ◌++◌, length, refl, ap, arith, length-append}
use Rattle.std.specs.Prelude.{if◌then◌else◌, nat_le, ◌&&◌, not, All}
use Rattle.std.proofs.lemmas.Bool.Decides.{nat_tests}
use Rattle.std.proofs.lemmas.List.Elements.{All-head, All-tail}
use Rattle.s7_events.specs.declared.entry.Side.{Side}
use Rattle.s7_events.specs.declared.entry.Entry.{Entry}
use Rattle.plant_script.specs.declared.plan.Event.{Event}
use Rattle.plant_script.specs.Plan.{Plan, IsPlan}
use Rattle.pair_core.specs.declared.standing.Standing.{Standing}
use Rattle.pair_core.specs.declared.cuts.Soundness.{Soundness}
use Rattle.pair_core.specs.declared.cuts.Soundness.TheVariants.{Sound}
use Rattle.pair_core.specs.Setup.{Setup}
use Rattle.pair_core.specs.Ledger.{Ledger, after}
use Rattle.pair_core.specs.Sides.{same_side, other_side, runs}
use Rattle.pair_core.specs.Cuts.{by_line, soundness_from, is_failed, is_cut, is_late}
use Rattle.pair_core.specs.Showings.{is_output, showings_of, showers, showers_by, tagged, shown_from}
use Rattle.pair_core.specs.World.{shown_past_from}
use Rattle.pair_core.specs.Good.{marked_from}
use Rattle.pair_core.proofs.Snoc.{shift}

pub marked_bound : (past k : ℕ) (es : List Entry) → past ≤ k → marked_from past k es ≤ k + length es
marked_bound past k [] h = omega arith
marked_bound past k (e ∷ es) h =
    let step : (b : Bool) → (if b then k + 1 else past) ≤ k + 1 = λ b. elim b as (λ v. (if v then k + 1 else past) ≤ k + 1) [ true ↦ omega arith | false ↦ omega arith ] in
    rw (shift k (length es)) (marked_bound (if is_output e then k + 1 else past) (k + 1) es (step (is_output e)))

pub shown_past_append : (past : ℕ) (xs ys : List (ℕ × Side)) (s : Side) → shown_past_from past (xs ++ ys) s ≡ shown_past_from (shown_past_from past xs s) ys s
shown_past_append past [] ys s = refl
shown_past_append past (x ∷ xs) ys s = shown_past_append (if same_side x.1 s then x.0 + 1 else past) xs ys s

pub tagged_bound : (past k : ℕ) (sides : List Side) (s : Side) → past ≤ k + 1 → shown_past_from past (tagged k sides) s ≤ k + 1
tagged_bound past k [] s h = h
tagged_bound past k (x ∷ xs) s h =
    let step : (b : Bool) → (if b then k + 1 else past) ≤ k + 1 = λ b. elim b as (λ v. (if v then k + 1 else past) ≤ k + 1) [ true ↦ omega arith | false ↦ h ] in
    tagged_bound (if same_side x s then k + 1 else past) k xs s (step (same_side x s))

showings_bound : (p : Plan) (st : Standing) (k past : ℕ) (e : Entry) (s : Side) (b : Bool) → is_output e ≡ b → past ≤ k
    → shown_past_from past (showings_of p st k e) s ≤ k + 1
showings_bound p st k past e s true is h = rw is (tagged_bound past k (showers p st (k + 1)) s (omega arith))
showings_bound p st k past e s false is h = rw is (omega arith)

pub shown_bound : (p : Setup) (g : Ledger) (past : ℕ) (es : List Entry) (s : Side) → past ≤ g.moment
    → shown_past_from past (shown_from p g es) s ≤ g.moment + length es
shown_bound p g past [] s h = omega arith
shown_bound p g past (e ∷ es) s h =
    let st = (after p g e).standing in
    rw (shown_past_append past (showings_of p.plan st g.moment e) (shown_from p (after p g e) es) s, shift g.moment (length es))
    (shown_bound p (after p g e) (shown_past_from past (showings_of p.plan st g.moment e) s) es s (showings_bound p.plan st g.moment past e s (is_output e) refl h))

-- at most two sides show an output
showers_few : (m : Side) (k : ℕ) (cut late other : Bool) → length (tagged k (showers_by m cut late other)) ≤ 2
showers_few m k true true true = omega arith
showers_few m k true true false = omega arith
showers_few m k true false true = omega arith
showers_few m k true false false = omega arith
showers_few m k false late other = omega arith

pub showings_few : (p : Plan) (st : Standing) (k : ℕ) (e : Entry) (b : Bool) → is_output e ≡ b → length (showings_of p st k e) ≤ 2
showings_few p st k e true is =
    rw is (showers_few st.master k (is_cut p st.master (k + 1)) (is_late p st.master (k + 1)) (runs st (other_side st.master) && not (is_cut p (other_side st.master) (k + 1))))
showings_few p st k e false is = rw is (omega arith)

pub shown_few : (p : Setup) (g : Ledger) (es : List Entry) → length (shown_from p g es) ≤ 2 * length es
shown_few p g [] = omega arith
shown_few p g (e ∷ es) =
    let st = (after p g e).standing in
    omega (arith, length-append (showings_of p.plan st g.moment e) (shown_from p (after p g e) es), showings_few p.plan st g.moment e (is_output e) refl, shown_few p (after p g e) es)

-- no line is dated at the end
soundness_end : (before : Soundness) (events : List Event) (s : Side) (k end : ℕ) → All (λ event. event.moment < end) events → end ≤ k + 1
    → soundness_from before events s (k + 1) ≡ soundness_from before events s k
soundness_end before [] s k end h e = refl
soundness_end before (x ∷ xs) s k end h e =
    let early : x.moment < end = All-head (λ event. event.moment < end) x xs h in
    let now : nat_le x.moment k ≡ true = grind (arith, nat_tests) in
    let next : nat_le x.moment (k + 1) ≡ true = grind (arith, nat_tests) in
    rw (now, next) (soundness_end (by_line x.what s before) xs s k end (All-tail (λ event. event.moment < end) x xs h) e)

pub cut_end : (plan : Plan) (s : Side) (k : ℕ) → IsPlan plan → plan.end ≤ k + 1 → is_cut plan s (k + 1) ≡ is_cut plan s k
unfolding is_cut
cut_end plan s k fine e = ap is_failed (soundness_end Sound plan.events s k plan.end fine.before_end e)
