-- Keys that do not fall, by recursion and by places.
use Rattle.std.proofs.Common.{ℕ, zero, suc, ◌≤◌, List, [], ◌∷◌, arith}
use Rattle.std.specs.Prelude.{All}
use Rattle.std.specs.List.{AllPairs}
use Rattle.std.proofs.lemmas.List.Elements.{All-nil, All-cons, All-weaker}

-- no key is below the floor or below one before it
abbrev pub Rising : {X : Type 0} → (X → ℕ) → ℕ → List X → Type 0
Rising key floor [] = Unit {0}
Rising key floor (x ∷ xs) = (floor ≤ key x) × Rising key (key x) xs

-- no key is below the floor
pub rising_above : {X : Type 0} (key : X → ℕ) (floor : ℕ) (xs : List X) → Rising key floor xs → All (λ x. floor ≤ key x) xs
rising_above key floor [] rising = All-nil (λ x. floor ≤ key x)
rising_above key floor (x ∷ xs) rising =
    All-cons (λ y. floor ≤ key y) x xs rising.0
    (All-weaker (λ y. key x ≤ key y) (λ y. floor ≤ key y) (λ y above. let low : floor ≤ key x = rising.0 in omega arith) xs (rising_above key (key x) xs rising.1))

-- the keys rise by places
pub rising_pairs : {X : Type 0} (key : X → ℕ) (floor : ℕ) (xs : List X) → Rising key floor xs → AllPairs (λ a b. key a ≤ key b) xs
rising_pairs key floor [] rising i j d lt below = absurd (omega arith)
rising_pairs key floor (x ∷ xs) rising i zero d lt below = absurd (omega arith)
rising_pairs key floor (x ∷ xs) rising zero (suc j) d lt below = rising_above key (key x) xs rising.1 j d (omega arith)
rising_pairs key floor (x ∷ xs) rising (suc i) (suc j) d lt below = rising_pairs key (key x) xs rising.1 i j d (omega arith) (omega arith)

-- and by places they rise by recursion
pub pairs_rising : {X : Type 0} (key : X → ℕ) (floor : ℕ) (xs : List X) → All (λ x. floor ≤ key x) xs → AllPairs (λ a b. key a ≤ key b) xs → Rising key floor xs
pairs_rising key floor [] above pairs = tt
pairs_rising key floor (x ∷ xs) above pairs = (
  above 0 x (omega arith),
  pairs_rising key (key x) xs (λ k d lt. pairs 0 (suc k) d (omega arith) (omega arith)) (λ i j d lt below. pairs (suc i) (suc j) d (omega arith) (omega arith)),
)

-- every key is 0 or more
pub all_rising : {X : Type 0} (key : X → ℕ) (xs : List X) → AllPairs (λ a b. key a ≤ key b) xs → Rising key 0 xs
all_rising key xs pairs = pairs_rising key 0 xs (λ k d lt. omega arith) pairs
