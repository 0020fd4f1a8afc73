-- Lines by number: what is left of them, at one of them.
use Rattle.std.proofs.Common.{◌≡◌, ℕ, zero, suc, ◌+◌, ◌≤◌, List, [], ◌∷◌, ◌++◌, Option, drop, get_or, length, refl, ap, arith}
use Rattle.std.specs.Prelude.{slice_get}
use Rattle.std.proofs.Math.ListN.{drop_of_length-le}
use Rattle.trace_text.specs.Tail.{block_by, block_line, block_lines, counter_line, counter_lines}

nothing_left : {X : Type 0} (k : ℕ) → drop {A = X} k [] ≡ []
nothing_left zero = refl
nothing_left (suc k) = refl

pub blocks_at : (blocks : List (Option (List ℕ))) (k n : ℕ) → block_lines n (drop k blocks) ≡ block_line n (block_by (slice_get blocks k)) ++ block_lines (n + 1) (drop (k + 1) blocks)
blocks_at [] k n = rw (nothing_left k, nothing_left (k + 1)) refl
blocks_at (block ∷ blocks) zero n = refl
blocks_at (block ∷ blocks) (suc k) n = let e : suc k + 1 ≡ suc (k + 1) = omega arith in rw e (blocks_at blocks k n)

pub counters_at : (values : List ℕ) (k n : ℕ) → counter_lines n (drop k values) ≡ counter_line n (get_or values k 0) ++ counter_lines (n + 1) (drop (k + 1) values)
counters_at [] k n = rw (nothing_left k, nothing_left (k + 1)) refl
counters_at (value ∷ values) zero n = refl
counters_at (value ∷ values) (suc k) n = let e : suc k + 1 ≡ suc (k + 1) = omega arith in rw e (counters_at values k n)

pub no_blocks_left : (blocks : List (Option (List ℕ))) (n : ℕ) → length blocks ≤ n → block_lines n (drop n blocks) ≡ []
no_blocks_left blocks n past = ap (λ l. block_lines n l) (drop_of_length-le blocks past)

pub no_counters_left : (values : List ℕ) (n : ℕ) → length values ≤ n → counter_lines n (drop n values) ≡ []
no_counters_left values n past = ap (λ l. counter_lines n l) (drop_of_length-le values past)
