-- What becomes of the first byte of a REDUNDANT module, moment by moment.
use Rattle.std.specs.Prelude.{ℕ, Bool, true, false, List, [], ◌∷◌, Option, slice_get, nat_le, if◌then◌else◌, map}
use Rattle.std.specs.List.{range_with_len}
use Rattle.s7_events.specs.declared.entry.Side.{Side}
use Rattle.s7_events.specs.declared.entry.Side.TheVariants.{A, B}
use Rattle.plant_io.specs.PairValue.{PairState, Standing, fresh, pair_step, is_due}

-- a moment: the byte on side A and on side B, and which sides run and which is master
pub record Moment : Type 0 where
  pub a : ℕ
  pub b : ℕ
  pub standing : Standing

abbrev pub both : Side → Standing
both master = record { a_runs = true; b_runs = true; master = master }

abbrev pub alone : Side → Standing
alone A = record { a_runs = true; b_runs = false; master = A }
alone B = record { a_runs = false; b_runs = true; master = B }

abbrev pub after : ℕ → PairState → Moment → PairState
after time before moment = pair_step time (moment.a ∷ []) (moment.b ∷ []) moment.standing before

-- whether OB70 becomes due at each moment, and the byte that the pair takes
abbrev pub outcomes : ℕ → PairState → List Moment → List (Bool × Option ℕ)
outcomes time before [] = []
outcomes time before (moment ∷ moments) =
    (is_due time before (after time before moment), slice_get (after time before moment).bytes 0)
    ∷ outcomes time (after time before moment) moments

abbrev pub from_start : ℕ → List Moment → List (Bool × Option ℕ)
from_start time moments = outcomes time fresh moments

-- a byte that is 1 from a moment on
abbrev pub one_from : ℕ → ℕ → ℕ
one_from start moment = if nat_le start moment then 1 else 0

-- 52 moments, with the byte 1 on side A from one on and on side B from another
abbrev pub changed_at : ℕ → ℕ → List Moment
changed_at a b = map (λ k. record { a = one_from a k; b = one_from b k; standing = both A }) (range_with_len 0 52)
