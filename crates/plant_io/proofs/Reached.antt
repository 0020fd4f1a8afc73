-- OB70 becomes due where the state says that the discrepancy time is reached.
use Rattle.std.proofs.Common.{◌≡◌, ℕ, ◌+◌, Bool, true, false, List, refl, arith}
use Rattle.std.specs.Prelude.{◌==◌, ◌&&◌, not, nat_lt, if◌then◌else◌}
use Rattle.std.specs.Str.{bytes_eq}
use Rattle.std.proofs.lemmas.Bool.Decides.{nat_tests}
use Rattle.s7_events.specs.declared.entry.Side.TheVariants.{A, B}
use Rattle.plant_script.specs.declared.plan.Module.{Module}
use Rattle.plant_script.specs.Plan.{Plan}
use Rattle.plant_io.specs.PlantValue.{side_bytes}
use Rattle.plant_io.specs.PairValue.{PairState, Standing, time_of, differing, is_due, pair_step}
use Rattle.plant_io.specs.Lasting.{IsDueWhenReached}

rests : (n time : ℕ) → (nat_lt n 0 && (0 == time)) ≡ (nat_lt 0 0 && (0 == time))
rests n time = grind (arith, nat_tests)

grows : (n time : ℕ) → (nat_lt n (n + 1) && (n + 1 == time)) ≡ (nat_lt 0 (n + 1) && (n + 1 == time))
grows n time = grind (arith, nat_tests)

reached_by : (p q r : Bool) (n time : ℕ) (x y z w : PairState) → x.run ≡ 0 → y.run ≡ 0 → z.run ≡ 0 → w.run ≡ n + 1
    → (nat_lt n (if not p then x else if not q then y else if r then z else w).run && ((if not p then x else if not q then y else if r then z else w).run == time))
    ≡ (nat_lt 0 (if not p then x else if not q then y else if r then z else w).run && ((if not p then x else if not q then y else if r then z else w).run == time))
reached_by false q r n time x y z w of_x of_y of_z of_w = rw of_x (rests n time)
reached_by true false r n time x y z w of_x of_y of_z of_w = rw of_y (rests n time)
reached_by true true true n time x y z w of_x of_y of_z of_w = rw of_z (rests n time)
reached_by true true false n time x y z w of_x of_y of_z of_w = rw of_w (grows n time)

pub due_when_reached : (plan : Plan) (m : Module) (now : Standing) (moment : ℕ) (before : PairState) → IsDueWhenReached plan m now moment before
due_when_reached plan m now moment before =
    reached_by now.a_runs now.b_runs (bytes_eq (side_bytes plan m A moment) (side_bytes plan m B moment)) before.run (time_of m.kind)
    (record before { run = 0; first = m.at_byte; bytes = side_bytes plan m B moment }) (record before { run = 0; first = m.at_byte; bytes = side_bytes plan m A moment })
    (record before { run = 0; first = m.at_byte; bytes = side_bytes plan m A moment })
    (differing (time_of m.kind) (side_bytes plan m A moment) (side_bytes plan m B moment) now.master (record before { first = m.at_byte })) refl refl refl refl
