-- Each line is answered at most as often as it comes in.
use Rattle.std.proofs.Common.{◌≡◌, ◌∙◌, ℕ, zero, suc, ◌+◌, ◌*◌, ◌<◌, ◌≤◌, Bool, true, false, List, [], ◌∷◌, refl, ap, arith}
use Rattle.std.specs.Prelude.{if◌then◌else◌, nat_lt, ◌==◌, ◌&&◌, ◌%◌, ◌/◌, All, map, filter, Option, Some, None}
use Rattle.std.specs.List.{filter_map, cons_option, AllPairs}
use Rattle.std.proofs.lemmas.Bool.Decides.{nat_tests}
use Rattle.std.proofs.Math.Nat.{mul-mod_left, mul-le-mul_left}
use Rattle.s7_base.specs.Blocks.{Program}
use Rattle.s7_events.specs.declared.entry.Answer.{Answer}
use Rattle.s7_events.specs.declared.entry.Answer.TheVariants as answers
use Rattle.plant_script.specs.Plan.{Plan}
use Rattle.plant_script.specs.declared.plan.Event.{Event}
use Rattle.plant_script.specs.declared.plan.What.{What}
use Rattle.plant_script.specs.declared.plan.What.TheVariants as events
use Rattle.alarm_queue.specs.declared.alarm.DueAlarm.{DueAlarm}
use Rattle.alarm_queue.specs.declared.alarm.Source.TheVariants.{Cpu, Line}
use Rattle.alarm_queue.specs.Order.{due_alarm, is_before, insert, waits_once, waits, add, add_all, tail}
use Rattle.alarm_queue.specs.Due.{Schedule, schedule_of, alarm_by, alarm_of, period_of, ends_period, lines_due, cyclic_due, due_at}
use Rattle.alarm_queue.specs.Due as due
use Rattle.alarm_queue.specs.Waiting.{left_by, waiting_at, first_waiting, waiting_after}
use Rattle.alarm_queue.specs.Laws.{Step, is_of_line, count_line, AreOfPair, StepsAreOfPair, count_first, count_answered, times_answered_from, AnsweredAsGiven, AnsweredOnce, IsDueByPeriod}
use Rattle.alarm_queue.proofs.DueLaws.{added_both}

-- the lines of this number that are due from the moment on
abbrev coming : ℕ → ℕ → List DueAlarm → ℕ
coming n k [] = 0
coming n k (a ∷ rest) = (if nat_lt a.due k then 0 else (if is_of_line n a.source then 1 else 0)) + coming n k rest

abbrev one : ℕ → DueAlarm → ℕ
one n x = if is_of_line n x.source then 1 else 0

insert_by : (n : ℕ) (x y : DueAlarm) (ys : List DueAlarm) (b : Bool) → count_line n (insert x ys) ≡ one n x + count_line n ys
    → count_line n (if b then x ∷ y ∷ ys else y ∷ insert x ys) ≡ one n x + count_line n (y ∷ ys)
insert_by n x y ys true h = refl
insert_by n x y ys false h = omega (arith, h)

count_insert : (n : ℕ) (x : DueAlarm) (xs : List DueAlarm) → count_line n (insert x xs) ≡ one n x + count_line n xs
count_insert n x [] = refl
count_insert n x (y ∷ ys) = insert_by n x y ys (is_before x y) (count_insert n x ys)

add_by : (n : ℕ) (x : DueAlarm) (xs : List DueAlarm) (b : Bool) → count_line n (if b then xs else insert x xs) ≤ one n x + count_line n xs
add_by n x xs true = omega arith
add_by n x xs false = omega (arith, count_insert n x xs)

count_add : (n : ℕ) (x : DueAlarm) (xs : List DueAlarm) → count_line n (add x xs) ≤ one n x + count_line n xs
count_add n x xs = add_by n x xs (waits_once x.ob && waits x xs)

-- what is not of a line adds none
count_pair : (n : ℕ) (ys xs : List DueAlarm) → AreOfPair ys → count_line n (add_all ys xs) ≤ count_line n xs
count_pair n [] xs h = omega arith
count_pair n (y ∷ ys) xs h =
    let none : one n y ≡ 0 = rw h.0 refl in
    omega (arith, count_pair n ys (add y xs) h.1, count_add n y xs, none)

cyclic_by : (ob k : ℕ) (rest : List ℕ) (b : Bool) → AreOfPair (map (λ o. due_alarm o k Cpu 0) rest) → AreOfPair (map (λ o. due_alarm o k Cpu 0) (if b then ob ∷ rest else rest))
cyclic_by ob k rest true h = ((λ n. refl), h)
cyclic_by ob k rest false h = h

cyclic_is_none : (obs : List ℕ) (k : ℕ) → AreOfPair (cyclic_due obs k)
cyclic_is_none [] k = tt
cyclic_is_none (ob ∷ obs) k = cyclic_by ob k (filter (ends_period k) obs) (ends_period k ob) (cyclic_is_none obs k)

-- what comes in at the moment is no longer to come
count_by : (n k : ℕ) (a : DueAlarm) (rest xs : List DueAlarm) (now past next : Bool) → (a.due == k) ≡ now → nat_lt a.due k ≡ past → nat_lt a.due (k + 1) ≡ next
    → ((ys : List DueAlarm) → count_line n (add_all (lines_due rest k) ys) + coming n (k + 1) rest ≤ count_line n ys + coming n k rest)
    → count_line n (add_all (if now then a ∷ lines_due rest k else lines_due rest k) xs) + ((if next then 0 else one n a) + coming n (k + 1) rest) ≤ count_line n xs + ((if past then 0 else one n a) + coming n k rest)
count_by n k a rest xs true true next en ep ex h = absurd (let none : ⊥ = grind (arith, nat_tests) in none)
count_by n k a rest xs true false true en ep ex h = omega (arith, h (add a xs), count_add n a xs)
count_by n k a rest xs true false false en ep ex h = absurd (let none : ⊥ = grind (arith, nat_tests) in none)
count_by n k a rest xs false true true en ep ex h = omega (arith, h xs)
count_by n k a rest xs false true false en ep ex h = absurd (let none : ⊥ = grind (arith, nat_tests) in none)
count_by n k a rest xs false false true en ep ex h = omega (arith, h xs)
count_by n k a rest xs false false false en ep ex h = omega (arith, h xs)

count_lines : (n k : ℕ) (lines xs : List DueAlarm) → count_line n (add_all (lines_due lines k) xs) + coming n (k + 1) lines ≤ count_line n xs + coming n k lines
count_lines n k [] xs = omega arith
count_lines n k (a ∷ rest) xs = count_by n k a rest xs (a.due == k) (nat_lt a.due k) (nat_lt a.due (k + 1)) refl refl refl (λ ys. count_lines n k rest ys)

count_at : (schedule : Schedule) (n k : ℕ) (by_pair xs : List DueAlarm) → AreOfPair by_pair
    → count_line n (waiting_at schedule k by_pair xs) + coming n (k + 1) schedule.lines ≤ count_line n xs + coming n k schedule.lines
count_at schedule n k by_pair xs h =
    let both = ap (λ ys. count_line n ys) (added_both (cyclic_due schedule.cyclic k) (lines_due schedule.lines k) xs) in
    omega (
      arith,
      count_pair n by_pair (add_all (due_at schedule k) xs) h,
      both,
      count_lines n k schedule.lines (add_all (cyclic_due schedule.cyclic k) xs),
      count_pair n (cyclic_due schedule.cyclic k) xs (cyclic_is_none schedule.cyclic k),
    )

count_tail : (n : ℕ) (xs : List DueAlarm) → count_first n xs + count_line n (tail xs) ≡ count_line n xs
count_tail n [] = refl
count_tail n (x ∷ xs) = refl

count_left : (n : ℕ) (xs : List DueAlarm) (a : Answer) → count_answered n a xs + count_line n (left_by a xs) ≡ count_line n xs
count_left n xs (answers.Alarm ob info) = count_tail n xs
count_left n xs _ = omega arith

once_from : (schedule : Schedule) (n k : ℕ) (xs : List DueAlarm) (steps : List Step) → StepsAreOfPair steps
    → times_answered_from schedule n k xs steps ≤ count_line n xs + coming n (k + 1) schedule.lines
once_from schedule n k xs [] h = omega arith
once_from schedule n k xs (s ∷ ss) h =
    omega (
      arith,
      once_from schedule n (k + 1) (waiting_after schedule k s.answer s.by_pair xs) ss h.1,
      count_at schedule n (k + 1) s.by_pair (left_by s.answer xs) h.0,
      count_left n xs s.answer,
    )

all_coming : (n : ℕ) (lines : List DueAlarm) → coming n 0 lines ≡ count_line n lines
all_coming n [] = refl
all_coming n (a ∷ rest) =
    let test : nat_lt a.due 0 ≡ false = grind (arith, nat_tests) in
    rw test (ap (λ m. one n a + m) (all_coming n rest))

pub answered_as_given : (schedule : Schedule) (by_pair : List DueAlarm) (steps : List Step) → AnsweredAsGiven schedule by_pair steps
answered_as_given schedule by_pair steps first h n =
    omega (arith, once_from schedule n 0 (first_waiting schedule by_pair) steps h, count_at schedule n 0 by_pair [] first, all_coming n schedule.lines)

-- of lines that differ --

abbrev counted : ℕ → Option DueAlarm → ℕ
counted n None = 0
counted n (Some a) = one n a

count_option : (n : ℕ) (o : Option DueAlarm) (rest : List DueAlarm) → count_line n (cons_option o rest) ≡ counted n o + count_line n rest
count_option n None rest = omega arith
count_option n (Some a) rest = refl

counted_if : (n ob moment line info : ℕ) (b : Bool) → counted n (if b then Some (due_alarm ob moment (Line line) info) else None) ≤ (if line == n then 1 else 0)
counted_if n ob moment line info true = omega arith
counted_if n ob moment line info false = omega arith

counted_by : (n moment line : ℕ) (what : What) → counted n (alarm_by moment line what) ≤ (if line == n then 1 else 0)
counted_by n moment line (events.Alarm ob info) = counted_if n ob moment line info (due.is_of_line ob)
counted_by n moment line (events.Input at_byte side value) = omega arith
counted_by n moment line (events.Job job) = omega arith
counted_by n moment line (events.Fail side late) = omega arith
counted_by n moment line (events.Return side fresh) = omega arith
counted_by n moment line (events.Suspect side pass) = omega arith

later_none : (n : ℕ) (list : List Event) → All (λ event. n < event.line) list → count_line n (filter_map alarm_of list) ≡ 0
later_none n [] h = refl
later_none n (event ∷ rest) h =
    let less : n < event.line = h 0 event (omega arith) in
    let test : (event.line == n) ≡ false = grind (arith, nat_tests) in
    let none : counted n (alarm_of event) ≤ 0 = rw test at (counted_by n event.moment event.line event.what) in
    omega (arith, none, count_option n (alarm_of event) (filter_map alarm_of rest), later_none n rest (λ k d below. h (suc k) d (omega arith)))

own_by : (n : ℕ) (event : Event) (rest : List Event) (b : Bool) → (event.line == n) ≡ b → counted n (alarm_of event) ≤ (if b then 1 else 0)
    → All (λ later. event.line < later.line) rest → count_line n (filter_map alarm_of rest) ≤ 1 → counted n (alarm_of event) + count_line n (filter_map alarm_of rest) ≤ 1
own_by n event rest false is le later h = omega arith
own_by n event rest true is le later h =
    let same : event.line ≡ n = grind (arith, nat_tests) in
    omega (arith, le, later_none n rest (λ k d below. omega (arith, later k d below, same)))

own_line : (n : ℕ) (list : List Event) → AllPairs (λ earlier later. earlier.line < later.line) list → count_line n (filter_map alarm_of list) ≤ 1
own_line n [] h = omega arith
own_line n (event ∷ rest) h =
    let one_at_most = own_by n event rest (event.line == n) refl (counted_by n event.moment event.line event.what) (λ k d below. h 0 (suc k) d (omega arith) (omega arith))
    (own_line n rest (λ i j d lt below. h (suc i) (suc j) d (omega arith) (omega arith))) in
    omega (arith, one_at_most, count_option n (alarm_of event) (filter_map alarm_of rest))

pub answered_once : (plan : Plan) (program : Program) (by_pair : List DueAlarm) (steps : List Step) → AnsweredOnce plan program by_pair steps
answered_once plan program by_pair steps own first h n =
    omega (arith, answered_as_given (schedule_of plan program) by_pair steps first h n, own_line n plan.events own)

-- periods --

some_period : (ob : ℕ) → 0 < period_of ob
some_period ob = grind (arith, nat_tests)

-- for a test of a number and of a rest
both_true : (a b : Bool) → (a && b) ≡ true → (a ≡ true) × (b ≡ true)
both_true true true h = (refl, refl)
both_true true false h = absurd (cc h)
both_true false b h = absurd (cc h)

some_times : (n k p : ℕ) → 0 < k → k ≡ n * p → 0 < n
some_times zero k p later is = absurd (omega (arith, is))
some_times (suc n) k p later is = omega arith

whole : (k p : ℕ) → 0 < p → (nat_lt 0 k && k % p == 0) ≡ true → (n : ℕ) × (0 < n) × (k ≡ n * p)
whole k p some h =
    let parts = both_true (nat_lt 0 k) (k % p == 0) h in
    let later : 0 < k = (let test = parts.0 in grind (arith, nat_tests)) in
    let rest : k % p ≡ 0 = (let test = parts.1 in grind (arith, nat_tests)) in
    let product : k ≡ k / p * p = omega (arith, some, rest) in
    (k / p, some_times (k / p) k p later product, product)

ends : (k p : ℕ) → 0 < p → ((n : ℕ) × (0 < n) × (k ≡ n * p)) → (nat_lt 0 k && k % p == 0) ≡ true
ends k p some times =
    let rest : k % p ≡ 0 = ap (λ m. m % p) times.2 ∙ mul-mod_left times.0 p in
    let later : 0 < k = omega (arith, times.2, mul-le-mul_left p times.1) in
    let first : nat_lt 0 k ≡ true = grind (arith, nat_tests) in
    let second : (k % p == 0) ≡ true = grind (arith, nat_tests) in
    rw first second

pub due_by_period : (ob k : ℕ) → IsDueByPeriod ob k
due_by_period ob k = (whole k (period_of ob) (some_period ob), ends k (period_of ob) (some_period ob))
