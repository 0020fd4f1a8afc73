-- How the state goes on while the sides differ.
use Rattle.std.proofs.Common.{◌≡◌, ◌∙◌, ℕ, zero, suc, ◌+◌, ◌<◌, ◌≤◌, Bool, true, false, List, refl, ap, arith, add-one}
use Rattle.std.specs.Prelude.{◌==◌, ◌&&◌, not, nat_lt, if◌then◌else◌}
use Rattle.std.specs.Str.{bytes_eq}
use Rattle.std.proofs.lemmas.Bool.Decides.{nat_tests}
use Rattle.s7_events.specs.declared.entry.Side.TheVariants.{A, B}
use Rattle.plant_script.specs.declared.plan.Module.{Module}
use Rattle.plant_script.specs.Plan.{Plan}
use Rattle.plant_io.specs.PlantValue.{side_bytes}
use Rattle.plant_io.specs.PairValue.{PairState, Standing, time_of, differing, pair_step, pair_before}
use Rattle.plant_io.specs.Lasting.{Differ, BeginsAt, KeepsValue, TakesMaster, IsDueOnce}

one_step : (time : ℕ) (a b : List ℕ) (standing : Standing) (before : PairState) → standing.a_runs ≡ true → standing.b_runs ≡ true
    → bytes_eq a b ≡ false → pair_step time a b standing before ≡ differing time a b standing.master before
one_step time a b standing before a_runs b_runs unequal = rw a_runs (rw b_runs (rw unequal refl))

next : (plan : Plan) (m : Module) (standing : ℕ → Standing) (k : ℕ) → Differ plan m standing k
    → pair_before plan m standing (suc k) ≡ differing (time_of m.kind) (side_bytes plan m A k) (side_bytes plan m B k) (standing k).master (record (pair_before plan m standing k) { first = m.at_byte })
next plan m standing k d =
    one_step (time_of m.kind) (side_bytes plan m A k) (side_bytes plan m B k) (standing k) (record (pair_before plan m standing k) { first = m.at_byte }) d.a_runs d.b_runs d.unequal

rests : (p q r : Bool) (x y z w : PairState) → x.run ≡ 0 → y.run ≡ 0 → z.run ≡ 0 → (p ≡ true → q ≡ true → r ≡ false → ⊥)
    → (if not p then x else if not q then y else if r then z else w).run ≡ 0
rests false q r x y z w x_rests y_rests z_rests not_all = x_rests
rests true false r x y z w x_rests y_rests z_rests not_all = y_rests
rests true true true x y z w x_rests y_rests z_rests not_all = z_rests
rests true true false x y z w x_rests y_rests z_rests not_all = absurd (not_all refl refl refl)

-- where they did not differ at the moment before, none of the moments in a row has gone by
starts : (plan : Plan) (m : Module) (standing : ℕ → Standing) (from : ℕ) → BeginsAt plan m standing from → (pair_before plan m standing from).run ≡ 0
starts plan m standing zero begins = refl
starts plan m standing (suc j) begins =
    rests (standing j).a_runs (standing j).b_runs (bytes_eq (side_bytes plan m A j) (side_bytes plan m B j)) _ _ _ _ refl refl refl
    (λ a_runs b_runs unequal. begins (record { a_runs = a_runs; b_runs = b_runs; unequal = unequal }))

counts : (plan : Plan) (m : Module) (standing : ℕ → Standing) (from n k : ℕ) → k ≡ from + n → (pair_before plan m standing from).run ≡ 0
    → ((j : ℕ) → from ≤ j → j < k → Differ plan m standing j) → (pair_before plan m standing k).run ≡ n
counts plan m standing from zero k is begins each = ap (λ j. (pair_before plan m standing j).run) (omega (arith, is)) ∙ begins
counts plan m standing from (suc n) zero is begins each = omega (arith, is)
counts plan m standing from (suc n) (suc k) is begins each =
    let before = counts plan m standing from n k (omega (arith, is)) begins (λ j low high. each j low (omega (arith, high))) in
    ap (λ s. s.run) (next plan m standing k (each k (omega (arith, is)) (omega arith))) ∙ add-one _ ∙ ap suc before

kept : (plan : Plan) (m : Module) (standing : ℕ → Standing) (from n k : ℕ) → k ≡ from + n → (pair_before plan m standing from).run ≡ 0
    → ((j : ℕ) → from ≤ j → j < k → Differ plan m standing j) → n < time_of m.kind → (pair_before plan m standing k).bytes ≡ (pair_before plan m standing from).bytes
kept plan m standing from zero k is begins each short = ap (λ j. (pair_before plan m standing j).bytes) (omega (arith, is))
kept plan m standing from (suc n) zero is begins each short = absurd (omega (arith, is))
kept plan m standing from (suc n) (suc k) is begins each short =
    let counted = counts plan m standing from n k (omega (arith, is)) begins (λ j low high. each j low (omega (arith, high))) in
    let before = kept plan m standing from n k (omega (arith, is)) begins (λ j low high. each j low (omega (arith, high))) (omega (arith, short)) in
    ap (λ s. s.bytes) (next plan m standing k (each k (omega (arith, is)) (omega arith)))
    ∙ by_time (nat_lt ((pair_before plan m standing k).run + 1) (time_of m.kind)) (pair_before plan m standing k).bytes _ (grind (arith, nat_tests, counted, short)) ∙ before
  where
    by_time : (c : Bool) (x y : List ℕ) → c ≡ true → (if c then x else y) ≡ x
    by_time c x y is_true = rw is_true refl

pub keeps_value : (plan : Plan) (m : Module) (standing : ℕ → Standing) (from count : ℕ) → KeepsValue plan m standing from count
keeps_value plan m standing from count d short = kept plan m standing from count (from + count) refl (starts plan m standing from d.begins) d.each short

by_time : (c : Bool) (x y : List ℕ) → c ≡ false → (if c then x else y) ≡ y
by_time c x y is_false = rw is_false refl

pub takes_master : (plan : Plan) (m : Module) (standing : ℕ → Standing) (from count : ℕ) → TakesMaster plan m standing from count
takes_master plan m standing from count d long =
    let k = from + count in
    let counted = counts plan m standing from count k refl (starts plan m standing from d.begins) (λ j low high. d.each j low (omega (arith, high))) in
    ap (λ j. (pair_before plan m standing j).bytes) (add-one k)
    ∙ ap (λ s. s.bytes) (next plan m standing k (d.each k (omega arith) (omega arith)))
    ∙ by_time (nat_lt ((pair_before plan m standing k).run + 1) (time_of m.kind)) _ _ (grind (arith, nat_tests, counted, long))

grows : (n : ℕ) → nat_lt n (n + 1) ≡ true
grows n = grind (arith, nat_tests)

due_by : (time n x y : ℕ) → x ≡ n → y ≡ n + 1 → (nat_lt x y && (y == time)) ≡ (n + 1 == time)
due_by time n x y x_is y_is = rw x_is (rw y_is (rw (grows n) refl))

pub is_due_once : (plan : Plan) (m : Module) (standing : ℕ → Standing) (from count : ℕ) → IsDueOnce plan m standing from count
is_due_once plan m standing from count d =
    due_by (time_of m.kind) count _ _
    (counts plan m standing from count (from + count) refl (starts plan m standing from d.begins) (λ j low high. d.each j low (omega (arith, high))))
    (counts plan m standing from (count + 1) (from + count + 1) (omega arith) (starts plan m standing from d.begins) (λ j low high. d.each j low (omega (arith, high))))
