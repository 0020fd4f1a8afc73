-- The order of the alarms: insertion keeps it, and finds the place that a search finds.
use Rattle.std.proofs.Common.{inl, inr, ◌≡◌, ℕ, zero, suc, ◌≤◌, Bool, true, false, List, [], ◌∷◌, length, get_or, refl, ap, sym, subst, arith}
use Rattle.std.specs.Prelude.{if◌then◌else◌, ◌==◌, nat_lt, not, All}
use Rattle.std.specs.List as lists
use Rattle.std.specs.List.Sorted.{IsPartitionedBy, IsPartitionPoint}
use Rattle.std.proofs.lemmas.Bool.Decides.{nat_tests}
use Rattle.std.proofs.lemmas.List.Kept.{AllPairs-cons}
use Rattle.std.proofs.lemmas.List.Elements.{All-cons, All-tail}
use Rattle.std.proofs.Math.Nat.{eq-or-lt_of_le}
use Rattle.alarm_queue.specs.declared.alarm.DueAlarm.{DueAlarm}
use Rattle.alarm_queue.specs.Order.{is_before, line_of, insert, InOrder, tail}

-- what does not go before y, which does not go before x, does not go before x
by_numbers : (px py pz dx dy dz lx ly lz : ℕ)
    → (if pz == py then (if dz == dy then nat_lt lz ly else nat_lt dz dy) else nat_lt py pz) ≡ false
    → (if py == px then (if dy == dx then nat_lt ly lx else nat_lt dy dx) else nat_lt px py) ≡ false
    → (if pz == px then (if dz == dx then nat_lt lz lx else nat_lt dz dx) else nat_lt px pz) ≡ false
by_numbers px py pz dx dy dz lx ly lz h i = grind (arith, nat_tests)

pub not_before : (x y z : DueAlarm) → is_before z y ≡ false → is_before y x ≡ false → is_before z x ≡ false
unfolding is_before
not_before x y z h i =
    by_numbers x.priority y.priority z.priority x.due y.due z.due (line_of x.source) (line_of y.source) (line_of z.source) h i

-- what goes before another does not go after it
numbers_once : (px py dx dy lx ly : ℕ)
    → (if px == py then (if dx == dy then nat_lt lx ly else nat_lt dx dy) else nat_lt py px) ≡ true
    → (if py == px then (if dy == dx then nat_lt ly lx else nat_lt dy dx) else nat_lt px py) ≡ false
numbers_once px py dx dy lx ly h = grind (arith, nat_tests)

pub before_once : (x y : DueAlarm) → is_before x y ≡ true → is_before y x ≡ false
unfolding is_before
before_once x y h = numbers_once x.priority y.priority x.due y.due (line_of x.source) (line_of y.source) h

not_is : (b : Bool) → not b ≡ true → b ≡ false
not_is true h = cc
not_is false h = refl

not_is_not : (b : Bool) → not b ≡ false → b ≡ true
not_is_not true h = refl
not_is_not false h = cc

not_when : (b : Bool) → b ≡ false → not b ≡ true
not_when true h = cc
not_when false h = refl

-- those that the alarm goes before stand last
pub partitioned : (x : DueAlarm) (xs : List DueAlarm) → InOrder xs → IsPartitionedBy (λ y. not (is_before x y)) xs
partitioned x xs order = λ i j d le less h.
    elim (eq-or-lt_of_le le) [
      | inl same ↦ subst (λ k. not (is_before x (get_or xs k d)) ≡ true) (sym same) h
      | inr lt ↦ not_when _ (not_before (get_or xs i d) (get_or xs j d) x (not_is _ h) (order i j d lt less))
    ]

-- the part point of the search is the place
pub inserted : (x : DueAlarm) (xs : List DueAlarm) (i : ℕ) → IsPartitionPoint (λ y. not (is_before x y) ≡ true) (λ y. not (is_before x y) ≡ false) xs i → i ≤ length xs
    → lists.insert xs i x ≡ insert x xs
inserted x [] zero h le = refl
inserted x [] (suc i) h le = absurd (omega arith)
inserted x (y ∷ ys) zero h le =
    let before : is_before x y ≡ true = not_is_not _ (h.1 0 y (omega arith) (omega arith)) in
    rw before refl
inserted x (y ∷ ys) (suc i) h le =
    let after : is_before x y ≡ false = not_is _ (h.0 0 y (omega arith) (omega arith)) in
    rw after (ap (λ t. y ∷ t) (inserted x ys i (λ k d from below. h.0 (suc k) d (omega arith) (omega arith), λ k d from below. h.1 (suc k) d (omega arith) (omega arith)) (omega arith)))

pub all_inserted_by : (P : DueAlarm → Type 0) (x y : DueAlarm) (ys : List DueAlarm) (b : Bool) → All P (x ∷ y ∷ ys) → All P (y ∷ insert x ys) → All P (if b then x ∷ y ∷ ys else y ∷ insert x ys)
all_inserted_by P x y ys true h i = h
all_inserted_by P x y ys false h i = i

pub all_inserted : (P : DueAlarm → Type 0) (x : DueAlarm) (xs : List DueAlarm) → P x → All P xs → All P (insert x xs)
all_inserted P x [] p all = All-cons P x [] p all
all_inserted P x (y ∷ ys) p all =
    all_inserted_by P x y ys (is_before x y) (All-cons P x (y ∷ ys) p all) (All-cons P y (insert x ys) (all 0 y (omega arith)) (all_inserted P x ys p (All-tail P y ys all)))

pub order_tail : (x : DueAlarm) (xs : List DueAlarm) → InOrder (x ∷ xs) → InOrder xs
order_tail x xs h = λ i j d lt less. h (suc i) (suc j) d (omega arith) (omega arith)

pub order_head : (x : DueAlarm) (xs : List DueAlarm) → InOrder (x ∷ xs) → All (λ y. is_before y x ≡ false) xs
order_head x xs h = λ k d less. h 0 (suc k) d (omega arith) (omega arith)

first_of : (x y : DueAlarm) (ys : List DueAlarm) → is_before x y ≡ true → InOrder (y ∷ ys) → InOrder (x ∷ y ∷ ys)
first_of x y ys before h =
    AllPairs-cons (λ earlier later. is_before later earlier ≡ false) x (y ∷ ys)
    (All-cons (λ z. is_before z x ≡ false) y ys (before_once x y before)
    (λ k d less. not_before x y (get_or ys k d) (order_head y ys h k d less) (before_once x y before)))
    h

order_by : (x y : DueAlarm) (ys : List DueAlarm) (b : Bool) → is_before x y ≡ b → InOrder (y ∷ ys) → InOrder (insert x ys) → InOrder (if b then x ∷ y ∷ ys else y ∷ insert x ys)
order_by x y ys true is h i = first_of x y ys is h
order_by x y ys false is h i =
    AllPairs-cons (λ earlier later. is_before later earlier ≡ false) y (insert x ys)
    (all_inserted (λ z. is_before z y ≡ false) x ys is (order_head y ys h)) i

pub order_inserted : (x : DueAlarm) (xs : List DueAlarm) → InOrder xs → InOrder (insert x xs)
order_inserted x [] h = λ i j d lt less. absurd (omega arith)
order_inserted x (y ∷ ys) h = order_by x y ys (is_before x y) refl h (order_inserted x ys (order_tail y ys h))

pub order_left : (xs : List DueAlarm) → InOrder xs → InOrder (tail xs)
order_left [] h = h
order_left (x ∷ xs) h = order_tail x xs h

pub length_inserted_by : (x y : DueAlarm) (ys : List DueAlarm) (b : Bool) → length (insert x ys) ≡ suc (length ys) → length (if b then x ∷ y ∷ ys else y ∷ insert x ys) ≡ suc (suc (length ys))
length_inserted_by x y ys true h = refl
length_inserted_by x y ys false h = ap (λ n. suc n) h

pub length_inserted : (x : DueAlarm) (xs : List DueAlarm) → length (insert x xs) ≡ suc (length xs)
length_inserted x [] = refl
length_inserted x (y ∷ ys) = length_inserted_by x y ys (is_before x y) (length_inserted x ys)
