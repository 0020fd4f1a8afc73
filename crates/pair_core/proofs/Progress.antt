-- A visit of side A alone does one more of what is to be done.
use Rattle.std.proofs.Common.{◌≡◌, ◌∙◌, ℕ, ◌+◌, ◌*◌, ◌<◌, ◌≤◌, Bool, true, false, not, ◌&&◌, ◌||◌, nat_lt, [], ◌∷◌, length, Option, Some, None, is_some, refl, ap, sym, subst, arith, length-append}
use Rattle.std.specs.Prelude.{if◌then◌else◌, ◌-◌}
use Rattle.std.proofs.lemmas.Bool.Decides.{nat_tests}
use Rattle.s7_events.specs.declared.entry.Side.{Side}
use Rattle.s7_events.specs.declared.entry.Side.TheVariants.{A, B}
use Rattle.s7_events.specs.declared.entry.Entry.{Entry}
use Rattle.plant_script.specs.Plan.{IsPlan}
use Rattle.pair_core.specs.declared.endings.Ended.{Ended}
use Rattle.pair_core.specs.declared.turns.Turn.{Turn}
use Rattle.pair_core.specs.declared.turns.Turn.TheVariants as turns
use Rattle.pair_core.specs.declared.turns.Act.{Act}
use Rattle.pair_core.specs.declared.turns.Act.TheVariants.{Over, Show, Mark, Append}
use Rattle.pair_core.specs.declared.standing.Standing.{Standing}
use Rattle.pair_core.specs.Setup.{Setup}
use Rattle.pair_core.specs.OwnParts.{own_place, had_life}
use Rattle.pair_core.specs.Ledger.{first_ledger}
use Rattle.pair_core.specs.Sides.{same_side, runs, first_standing}
use Rattle.pair_core.specs.Endings.{ends_by_output}
use Rattle.pair_core.specs.Turns.{is_over}
use Rattle.pair_core.specs.World.{Log, World, part, standing_in, is_open, is_pending, has_shown, is_down, must_wait, waits_for_other, ended, unless_over, choose, next_entry, with_shown, with_marked, appended, acted, step, first_world}
use Rattle.pair_core.specs.Kept.{CanAct}
use Rattle.pair_core.specs.Good.{Good}
use Rattle.pair_core.specs.Progress.{done_with_last, done_of, IsAlone}
use Rattle.pair_core.proofs.OwnParts.{own_longer}
use Rattle.pair_core.proofs.Snoc.{shown_past_snoc}
use Rattle.pair_core.proofs.Losses.{stays_out}
use Rattle.pair_core.proofs.Logs.{down_is, pending_kept, never}
use Rattle.pair_core.proofs.Runs.{Means, ended_means}
use Rattle.pair_core.proofs.Overs.{inner, choose_is, chosen, over_told}
use Rattle.pair_core.proofs.Visits.{can_visit, keeps}

-- who runs --------------------------------------------------------------------

pub record IsSole (st : Standing) : Type 0 where
  pub a : runs st A ≡ true
  pub b : runs st B ≡ false
  pub master : st.master ≡ A

sole_by : (st : Standing) (m : Side) → st.master ≡ m → runs st m ≡ true → runs st B ≡ false → IsSole st
sole_by st A is run out = record { a = run; b = out; master = is }
sole_by st B is run out = absurd cc

-- alone, side A stays, and is master
sole : (p : Setup) (w : World) → Good p w → p.solo ≡ true → IsSole (standing_in p w.log)
sole p w good solo =
    let first : runs (first_standing p.solo) B ≡ false = ap not solo in
    sole_by (standing_in p w.log) (standing_in p w.log).master refl good.log.same.master
    (stays_out p B (first_ledger p) w.log.entries good.log.same.lawful first)

-- it is not cut while the run goes on ------------------------------------------

up_by : (on down_a down_b run_a run_b : Bool) → (on ≡ false → down_a ≡ false) → run_b ≡ false → (on ≡ true → ((run_a && not down_a) || (run_b && not down_b)) ≡ true) → down_a ≡ false
up_by on false down_b run_a run_b closed out goes = refl
up_by false true down_b run_a run_b closed out goes = closed refl
up_by true true down_b run_a true closed out goes = absurd cc
up_by true true down_b true false closed out goes = absurd (let h = goes refl in cc)
up_by true true down_b false false closed out goes = absurd (let h = goes refl in cc)

closed_up : (p : Setup) (l : Log) (s : Side) → is_open p l ≡ false → is_down p l s ≡ false
closed_up p l s h = rw (down_is p l s, h)

up_now : (p : Setup) (w : World) → IsSole (standing_in p w.log) → ended p w ≡ None → is_down p w.log A ≡ false
up_now p w only goes =
    let means : Means p w None = subst (Means p w) goes (ended_means p w) in
    up_by (is_open p w.log) (is_down p w.log A) (is_down p w.log B) (runs (standing_in p w.log) A) (runs (standing_in p w.log) B) (closed_up p w.log A) only.b means

-- what it does ------------------------------------------------------------------

abbrev act_alone : Bool → Bool → Act
act_alone pending shown = if pending then (if shown then Mark else Show) else Append

inner_alone : (dead taken pending wait shown behind : Bool) → dead ≡ false → taken ≡ false → wait ≡ false → behind ≡ false → inner dead taken pending wait shown behind ≡ act_alone pending shown
inner_alone true taken pending wait shown behind d t u b = absurd cc
inner_alone false true pending wait shown behind d t u b = absurd cc
inner_alone false false pending true shown behind d t u b = absurd cc
inner_alone false false pending false shown true d t u b = absurd cc
inner_alone false false true false true false d t u b = refl
inner_alone false false true false false false d t u b = refl
inner_alone false false false false shown false d t u b = refl

no_wait : (m : Side) (down : Bool) → m ≡ A → (not (same_side A m) && not down) ≡ false
no_wait A down is = refl
no_wait B down is = absurd cc

chooses : (p : Setup) (w : World) → IsSole (standing_in p w.log) → ended p w ≡ None → own_place (part w A) ≡ length w.log.entries
    → choose p w A ≡ act_alone (is_pending w.log) (has_shown w.log A)
chooses p w only goes here =
    let dead : (is_down p w.log A || not (runs (standing_in p w.log) A)) ≡ false = rw (up_now p w only goes, only.a) in
    let taken : nat_lt (own_place (part w A)) (length w.log.entries) ≡ false = ap (λ k. nat_lt k (length w.log.entries)) here ∙ never (length w.log.entries) in
    let wait : must_wait p w.log A ≡ false = no_wait (standing_in p w.log).master (is_down p w.log (standing_in p w.log).master) only.master in
    let behind : waits_for_other p w A ≡ false = rw only.b in
    choose_is p w A
    ∙ (ap (λ o. unless_over o (inner (is_down p w.log A || not (runs (standing_in p w.log) A)) (nat_lt (own_place (part w A)) (length w.log.entries)) (is_pending w.log) (must_wait p w.log A) (has_shown w.log A) (waits_for_other p w A))) goes
    ∙ inner_alone (is_down p w.log A || not (runs (standing_in p w.log) A)) (nat_lt (own_place (part w A)) (length w.log.entries)) (is_pending w.log) (must_wait p w.log A) (has_shown w.log A) (waits_for_other p w A) dead taken wait behind)

-- what that does -----------------------------------------------------------------

pub record Does (w v : World) : Type 0 where
  pub place : own_place (part v A) ≡ length v.log.entries
  pub more : done_of w.log + 1 ≤ done_of v.log

abbrev last_by : Bool → Bool → ℕ
last_by pending shown = if pending then (if shown then 1 else 0) else 2

last_is : (l : Log) (pending shown : Bool) → is_pending l ≡ pending → has_shown l A ≡ shown → done_with_last l ≡ last_by pending shown
last_is l pending shown p s = rw (p, s)

last_few : (pending shown : Bool) → last_by pending shown ≤ 2
last_few true true = omega arith
last_few true false = omega arith
last_few false shown = omega arith

shows_now : (l : Log) → 0 < length l.entries → has_shown (with_shown l A) A ≡ true
unfolding has_shown
shows_now l some =
    let here : length l.entries - 1 + 1 ≡ length l.entries = omega (arith, some) in
    rw (shown_past_snoc 0 l.shown ((length l.entries - 1, A)) A) (grind (arith, nat_tests))

marked_now : (l : Log) → is_pending (with_marked l) ≡ false
unfolding is_pending
marked_now l = elim (ends_by_output l.entries) as (λ b. (b && nat_lt (length l.entries) (length l.entries)) ≡ false) [ true ↦ never (length l.entries) | false ↦ refl ]

adds : (w : World) (o : Option Entry) → is_some o ≡ true → had_life (part w A).lives ≡ true → own_place (part w A) ≡ length w.log.entries → Does w (appended w A o).world
adds w None some had here = absurd cc
adds w (Some e) some had here =
    let longer = length-append w.log.entries (e ∷ []) in
    let few = last_few (is_pending w.log) (has_shown w.log A) in
    record { place = omega (arith, here, longer, own_longer (part w A) had); more = omega (arith, few, longer) }

does_by : (p : Setup) (w : World) (pending shown : Bool) → is_pending w.log ≡ pending → has_shown w.log A ≡ shown → own_place (part w A) ≡ length w.log.entries
    → CanAct p w A (act_alone pending shown) → (act_alone pending shown ≡ Append → is_some (next_entry p w.log) ≡ true) → Does w (acted p w A (act_alone pending shown)).world
does_by p w true true is has here can next =
    let old = last_is w.log true true is has in
    let new = last_is (with_marked w.log) false (has_shown (with_marked w.log) A) (marked_now w.log) refl in
    record { place = here; more = omega (arith, old, new) }
does_by p w true false is has here can next =
    let old = last_is w.log true false is has in
    let new = last_is (with_shown w.log A) true true (pending_kept w.log A ∙ is) (shows_now w.log can.0) in
    record { place = here; more = omega (arith, old, new) }
does_by p w false shown is has here can next = adds w (next_entry p w.log) (next refl) can.1 here

does : (p : Setup) (w : World) → IsPlan p.plan → Good p w → p.solo ≡ true → (choose p w A ≡ Append → is_some (next_entry p w.log) ≡ true)
    → own_place (part w A) ≡ length w.log.entries → ended p w ≡ None → Does w (step p w A).world
does p w fine good solo next here goes =
    let is = chooses p w (sole p w good solo) goes here in
    subst (λ act. Does w (acted p w A act).world) (sym is)
    (does_by p w (is_pending w.log) (has_shown w.log A) refl refl here (subst (CanAct p w A) is (can_visit p w A fine good)) (λ a. next (is ∙ a)))

-- the bound, and what a visit keeps ------------------------------------------------

few_done : (p : Setup) (w : World) → Good p w → done_of w.log ≤ 3 * p.plan.end + 2
few_done p w good = omega (arith, last_few (is_pending w.log) (has_shown w.log A), good.log.same.within)

first_done : (solo : Bool) → done_with_last (first_world solo).log ≡ 2
unfolding is_pending
first_done solo = refl

pub alone_first : (p : Setup) → p.solo ≡ true → IsAlone p (first_world p.solo) 0
alone_first p solo = record { solo = solo; place = refl; done = omega (arith, first_done p.solo); most = omega (arith, first_done p.solo) }

-- a visit of a run that has ended is answered so, and leaves the log
pub told_by : (p : Setup) (w : World) (s : Side) (ending : Ended) → ended p w ≡ Some ending → ((step p w s).answer ≡ turns.Over ending) × ((step p w s).world.log ≡ w.log)
told_by p w s ending is =
    let act : choose p w s ≡ Over ending = chosen p w s (Some ending) is in
    (ap (λ a. (acted p w s a).answer) act, ap (λ a. (acted p w s a).world.log) act)

goes_on : (p : Setup) (w : World) (s : Side) (o : Option Ended) → ended p w ≡ o → is_over (step p w s).answer ≡ false → ended p w ≡ None
goes_on p w s None is h = is
goes_on p w s (Some ending) is h = absurd (let over : is_over (step p w s).answer ≡ true = ap is_over (told_by p w s ending is).0 in cc)

pub alone_goes : (p : Setup) (w : World) (visits : ℕ) → IsPlan p.plan → Good p w → (choose p w A ≡ Append → is_some (next_entry p w.log) ≡ true)
    → IsAlone p w visits → is_over (step p w A).answer ≡ false → IsAlone p (step p w A).world (visits + 1)
alone_goes p w visits fine good next alone on =
    let h = does p w fine good alone.solo next alone.place (goes_on p w A (ended p w) refl on) in record {
      solo = alone.solo;
      place = h.place;
      done = omega (arith, alone.done, h.more);
      most = few_done p (step p w A).world (keeps p w A fine good);
    }

-- the same, told of what a visit left and answered ------------------------------------

-- what the visit did and answered is the step's
pub record IsStep (p q : Setup) (w v : World) (s : Side) (turn : Turn) : Type 0 where
  pub setup : q ≡ p
  pub world : v ≡ (step p w s).world
  pub answer : turn ≡ (step p w s).answer

pub step_is : (p q : Setup) (w v : World) (s : Side) (turn : Turn) (act : Act) → act ≡ choose p w s → q ≡ p → v ≡ (acted p w s act).world → turn ≡ (acted p w s act).answer → IsStep p q w v s turn
step_is p q w v s turn act chose setup world answer = record {
  setup = setup;
  world = world ∙ ap (λ a. (acted p w s a).world) chose;
  answer = answer ∙ ap (λ a. (acted p w s a).answer) chose;
}

pub told_visit : (p q : Setup) (w v : World) (s : Side) (turn : Turn) (ending : Ended) → IsStep p q w v s turn → ended p w ≡ Some ending → (turn ≡ turns.Over ending) × (v.log ≡ w.log)
told_visit p q w v s turn ending is h =
    let told = told_by p w s ending h in (is.answer ∙ told.0, ap (λ (x : World). x.log) is.world ∙ told.1)

pub ended_visit : (p q : Setup) (w v : World) (s : Side) (turn : Turn) → IsStep p q w v s turn → IsPlan p.plan → Good p w → is_over turn ≡ true → is_some (ended q v) ≡ true
ended_visit p q w v s turn is fine good over =
    let now : is_some (ended p (step p w s).world) ≡ true = (keeps p w s fine good).over s (over_told p w s (sym (ap is_over is.answer) ∙ over)) in
    subst (λ (x : World). is_some (ended q x) ≡ true) (sym is.world) (subst (λ (x : Setup). is_some (ended x (step p w s).world) ≡ true) (sym is.setup) now)

pub alone_visit : (p q : Setup) (w v : World) (s : Side) (turn : Turn) (visits : ℕ) → IsStep p q w v s turn → IsPlan p.plan → Good p w → (choose p w s ≡ Append → is_some (next_entry p w.log) ≡ true)
    → s ≡ A → IsAlone p w visits → is_over turn ≡ false → IsAlone q v (visits + 1)
alone_visit p q w v A turn visits is fine good next same alone on =
    let now = alone_goes p w visits fine good next alone (sym (ap is_over is.answer) ∙ on) in
    subst (λ (x : World). IsAlone q x (visits + 1)) (sym is.world) (subst (λ (x : Setup). IsAlone x (step p w A).world (visits + 1)) (sym is.setup) now)
alone_visit p q w v B turn visits is fine good next same alone on = absurd cc
