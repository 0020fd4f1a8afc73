-- The alarms that wait stand in their order, and each is one that a request can be answered by.
use Rattle.std.proofs.Common.{◌≡◌, ◌∙◌, ℕ, zero, suc, ◌+◌, ◌^◌, ◌≤◌, ◌<◌, Bool, true, false, List, [], ◌∷◌, ◌++◌, length, refl, ap, sym, subst, arith, Option, Some, None}
use Rattle.std.specs.Prelude.{if◌then◌else◌, ◌==◌, ◌&&◌, ◌||◌, not, nat_le, nat_lt, All, IsTrue, map, filter, replicate}
use Rattle.std.specs.List.{filter_map, cons_option}
use Rattle.std.proofs.lemmas.Bool.Decides.{nat_tests}
use Rattle.std.proofs.lemmas.List.Elements.{All-cons, All-tail, All-append}
use Rattle.s7_events.specs.Priorities.{is_cyclic, is_process, is_alarm, priority_of}
use Rattle.s7_events.specs.declared.entry.Side.TheVariants.{A, B}
use Rattle.s7_events.specs.declared.entry.Answer.{Answer}
use Rattle.s7_events.specs.declared.entry.Answer.TheVariants as answers
use Rattle.s7_events.specs.declared.entry.Entry.{Entry}
use Rattle.s7_base.specs.Blocks.{Program}
use Rattle.plant_script.specs.Form.{IsModule, IsWritten}
use Rattle.plant_script.specs.Plan.{Plan, IsPlan}
use Rattle.plant_script.specs.declared.plan.Module.{Module}
use Rattle.plant_io.specs.PairValue.{PairState, fresh}
use Rattle.plant_io.specs.Inputs.{is_due_at}
use Rattle.plant_io.proofs.Bytes.{IsByte, AreBytes, step_small}
use Rattle.plant_script.specs.declared.plan.Event.{Event}
use Rattle.plant_script.specs.declared.plan.What.{What}
use Rattle.plant_script.specs.declared.plan.What.TheVariants as events
use Rattle.alarm_queue.specs.declared.alarm.DueAlarm.{DueAlarm}
use Rattle.alarm_queue.specs.declared.alarm.Source.TheVariants.{Cpu, Line}
use Rattle.alarm_queue.specs.Order.{due_alarm, insert, waits_once, waits, add, add_all, tail, InOrder}
use Rattle.alarm_queue.specs.Due.{Schedule, is_of_line, alarm_by, alarm_of, cyclic_obs, is_loaded, ends_period, lines_due, cyclic_due, due_at, redundancy_by, redundancy_info}
use Rattle.alarm_queue.specs.Waiting.{left_by, first_above}
use Rattle.alarm_queue.proofs.OrderLaws.{all_inserted, order_inserted, order_left}
use Rattle.alarm_queue.proofs.DueLaws as due_laws
use Rattle.pair_core.specs.Setup.{Setup}
use Rattle.pair_core.specs.Monitor.{answers_overdue, ends_monitoring}
use Rattle.pair_core.specs.Sides.{first_standing, after_answer}
use Rattle.pair_core.specs.PlantInputs.{readers, first_inputs, inputs_after}
use Rattle.pair_core.specs.Waits.{schedule, overdue_due, discrepancy_at, discrepancy_due, due_by_pair, waiting_at_first, waits_after}
use Rattle.pair_core.specs.Ledger.{Ledger, first_ledger, after, ledger_from, ledger}

-- one after the other
pub added_both : (first later xs : List DueAlarm) → add_all (first ++ later) xs ≡ add_all later (add_all first xs)
added_both first later xs = due_laws.added_both first later xs

-- an alarm that may be an answer: of a block that an alarm starts, of its priority, and of OB70 with an address; its start
-- information has 32 bits
pub record IsFit (x : DueAlarm) : Type 0 where
  pub block : is_alarm x.ob ≡ true
  pub priority : x.priority ≡ priority_of x.ob
  pub info : (not (x.ob == 70) || nat_le x.info 65535) ≡ true
  pub small : x.info < 2 ^ 32

-- such alarms, in their order
pub record AreFit (xs : List DueAlarm) : Type 0 where
  pub order : InOrder xs
  pub each : All IsFit xs

none_fit : All IsFit []
none_fit = λ k d less. absurd (omega arith)

-- added and answered ---------------------------------------------------------------

add_by : (x : DueAlarm) (xs : List DueAlarm) (b : Bool) → IsFit x → AreFit xs → AreFit (if b then xs else insert x xs)
add_by x xs true fit h = h
add_by x xs false fit h = record { order = order_inserted x xs h.order; each = all_inserted IsFit x xs fit h.each }

add_fit : (x : DueAlarm) (xs : List DueAlarm) → IsFit x → AreFit xs → AreFit (add x xs)
add_fit x xs fit h = add_by x xs (waits_once x.ob && waits x xs) fit h

all_fit : (ys xs : List DueAlarm) → All IsFit ys → AreFit xs → AreFit (add_all ys xs)
all_fit [] xs fit h = h
all_fit (y ∷ ys) xs fit h = all_fit ys (add y xs) (All-tail IsFit y ys fit) (add_fit y xs (fit 0 y (omega arith)) h)

tail_each : (xs : List DueAlarm) → All IsFit xs → All IsFit (tail xs)
tail_each [] h = h
tail_each (x ∷ xs) h = All-tail IsFit x xs h

left_fit : (a : Answer) (xs : List DueAlarm) → AreFit xs → AreFit (left_by a xs)
left_fit (answers.Alarm ob info) xs h = record { order = order_left xs h.order; each = tail_each xs h.each }
left_fit _ xs h = h

-- what comes due -------------------------------------------------------------------

cyclic_is : (ob : ℕ) → is_cyclic ob ≡ true → (is_alarm ob ≡ true) × ((ob == 70) ≡ false)
cyclic_is ob h = (grind (arith, nat_tests), grind (arith, nat_tests))

or_left : (a b : Bool) → a ≡ false → (not a || b) ≡ true
or_left false b h = refl
or_left true b h = absurd cc

cyclic_fits : (ob k : ℕ) → is_cyclic ob ≡ true → IsFit (due_alarm ob k Cpu 0)
cyclic_fits ob k h = let is = cyclic_is ob h in record { block = is.0; priority = refl; info = or_left (ob == 70) (nat_le 0 65535) is.1; small = omega arith }

cyclic_by : (ob k : ℕ) (rest : List ℕ) (b : Bool) → IsFit (due_alarm ob k Cpu 0) → All IsFit (map (λ o. due_alarm o k Cpu 0) rest)
    → All IsFit (map (λ o. due_alarm o k Cpu 0) (if b then ob ∷ rest else rest))
cyclic_by ob k rest true fit h = All-cons IsFit (due_alarm ob k Cpu 0) (map (λ o. due_alarm o k Cpu 0) rest) fit h
cyclic_by ob k rest false fit h = h

cyclic_each : (obs : List ℕ) (k : ℕ) → All (λ ob. IsTrue (is_cyclic ob)) obs → All IsFit (cyclic_due obs k)
cyclic_each [] k h = none_fit
cyclic_each (ob ∷ obs) k h =
    cyclic_by ob k (filter (ends_period k) obs) (ends_period k ob) (cyclic_fits ob k (h 0 ob (omega arith)))
    (cyclic_each obs k (All-tail (λ o. IsTrue (is_cyclic o)) ob obs h))

line_is : (ob : ℕ) → is_of_line ob ≡ true → (is_alarm ob ≡ true) × ((ob == 70) ≡ false)
line_is ob h = (grind (arith, nat_tests), grind (arith, nat_tests))

line_fits : (ob moment line info : ℕ) → is_of_line ob ≡ true → info < 2 ^ 32 → IsFit (due_alarm ob moment (Line line) info)
line_fits ob moment line info h small = let is = line_is ob h in record { block = is.0; priority = refl; info = or_left (ob == 70) (nat_le info 65535) is.1; small = small }

abbrev IfFit : Option DueAlarm → Type 0
IfFit None = Unit {0}
IfFit (Some a) = IsFit a

line_by : (ob moment line info : ℕ) (b : Bool) → is_of_line ob ≡ b → info < 2 ^ 32 → IfFit (if b then Some (due_alarm ob moment (Line line) info) else None)
line_by ob moment line info true is small = line_fits ob moment line info is small
line_by ob moment line info false is small = tt

line_of_what : (moment line : ℕ) (what : What) → IsWritten what → IfFit (alarm_by moment line what)
line_of_what moment line (events.Alarm ob info) h = line_by ob moment line info (is_of_line ob) refl h.1
line_of_what moment line (events.Input at_byte side value) h = tt
line_of_what moment line (events.Job job) h = tt
line_of_what moment line (events.Fail side late) h = tt
line_of_what moment line (events.Return side afresh) h = tt
line_of_what moment line (events.Suspect side pass) h = tt

more_fit : (o : Option DueAlarm) (rest : List DueAlarm) → IfFit o → All IsFit rest → All IsFit (cons_option o rest)
more_fit None rest h all = all
more_fit (Some a) rest h all = All-cons IsFit a rest h all

lines_each : (list : List Event) → All (λ event. IsWritten event.what) list → All IsFit (filter_map alarm_of list)
lines_each [] h = none_fit
lines_each (event ∷ rest) h =
    more_fit (alarm_of event) (filter_map alarm_of rest) (line_of_what event.moment event.line event.what (h 0 event (omega arith)))
    (lines_each rest (All-tail (λ e. IsWritten e.what) event rest h))

kept_by : (a : DueAlarm) (rest : List DueAlarm) (b : Bool) → IsFit a → All IsFit rest → All IsFit (if b then a ∷ rest else rest)
kept_by a rest true fit h = All-cons IsFit a rest fit h
kept_by a rest false fit h = h

lines_at : (lines : List DueAlarm) (k : ℕ) → All IsFit lines → All IsFit (lines_due lines k)
lines_at [] k h = none_fit
lines_at (a ∷ rest) k h = kept_by a (lines_due rest k) (a.due == k) (h 0 a (omega arith)) (lines_at rest k (All-tail IsFit a rest h))

-- what a schedule makes due at a moment
due_each : (p : Setup) (k : ℕ) → IsPlan p.plan → All IsFit (due_at (schedule p) k)
unfolding schedule
due_each p k fine =
    All-append IsFit (cyclic_due (filter (is_loaded p.program) cyclic_obs) k) (lines_due (filter_map alarm_of p.plan.events) k)
    (cyclic_each (filter (is_loaded p.program) cyclic_obs) k (due_laws.all_cyclic (is_loaded p.program)))
    (lines_at (filter_map alarm_of p.plan.events) k (lines_each p.plan.events fine.events.form))

one_fit : (x : DueAlarm) (b : Bool) → IsFit x → All IsFit (if b then x ∷ [] else [])
one_fit x true fit = All-cons IsFit x [] fit none_fit
one_fit x false fit = none_fit

abbrev IfSmall : Option ℕ → Type 0
IfSmall None = Unit {0}
IfSmall (Some info) = info < 2 ^ 32

small_info : (a : Answer) → IfSmall (redundancy_info a)
small_info (answers.Lost A why) = omega arith
small_info (answers.Lost B why) = omega arith
small_info (answers.Back A) = omega arith
small_info (answers.Back B) = omega arith
small_info _ = tt

redundancy_each : (k : ℕ) (loaded : Bool) (o : Option ℕ) → IfSmall o → All IsFit (redundancy_by loaded k o)
redundancy_each k loaded None small = none_fit
redundancy_each k loaded (Some info) small = one_fit (due_alarm 72 k Cpu info) loaded (record { block = refl; priority = refl; info = refl; small = small })

address_small : (n : ℕ) → n ≤ 1024 → nat_le n 65535 ≡ true
address_small n h = grind (arith, nat_tests)

module_fits : (k : ℕ) (m : Module) → IsModule m → IsFit (discrepancy_at k m)
module_fits k m form = record {
  block = refl;
  priority = refl;
  info = address_small m.at_byte (omega (arith, form.within));
  small = omega (arith, form.within);
}

modules_by : (k : ℕ) (m : Module) (rest : List Module) (b : Bool) → IsModule m → All IsFit (map (discrepancy_at k) rest) → All IsFit (map (discrepancy_at k) (if b then m ∷ rest else rest))
modules_by k m rest true form h = All-cons IsFit (discrepancy_at k m) (map (discrepancy_at k) rest) (module_fits k m form) h
modules_by k m rest false form h = h

modules_each : (k : ℕ) (test : Module → Bool) (ms : List Module) → All IsModule ms → All IsFit (map (discrepancy_at k) (filter test ms))
modules_each k test [] h = none_fit
modules_each k test (m ∷ ms) h =
    modules_by k m (filter test ms) (test m) (h 0 m (omega arith)) (modules_each k test ms (All-tail IsModule m ms h))

discrepancy_each : (plan : Plan) (inputs : Module → PairState) (k : ℕ) → IsPlan plan → All IsFit (discrepancy_due plan inputs k)
discrepancy_each plan inputs k fine = modules_each k (λ m. is_due_at m (inputs m)) plan.modules fine.modules.form

-- and what the pair adds
pair_each : (p : Setup) (watch : Option ℕ) (inputs : Module → PairState) (k : ℕ) (a : Answer) → IsPlan p.plan → All IsFit (due_by_pair p.program p.plan watch inputs k a)
unfolding due_by_pair
pair_each p watch inputs k a fine =
    All-append IsFit (overdue_due p.program watch k) (discrepancy_due p.plan inputs k ++ redundancy_by (is_loaded p.program 72) k (redundancy_info a))
    (one_fit (due_alarm 80 k Cpu 0) (ends_monitoring watch k && answers_overdue p.program) (record { block = refl; priority = refl; info = refl; small = omega arith }))
    (All-append IsFit (discrepancy_due p.plan inputs k) (redundancy_by (is_loaded p.program 72) k (redundancy_info a))
    (discrepancy_each p.plan inputs k fine)
    (redundancy_each k (is_loaded p.program 72) (redundancy_info a) (small_info a)))

-- over a record ---------------------------------------------------------------------

no_alarm : AreFit []
no_alarm = record { order = λ i j d lt less. absurd (omega arith); each = none_fit }

pub first_fit : (p : Setup) → IsPlan p.plan → AreFit (first_ledger p).waiting
first_fit p fine =
    all_fit (discrepancy_due p.plan (first_inputs p.plan p.solo) 0) (add_all (due_at (schedule p) 0) []) (discrepancy_each p.plan (first_inputs p.plan p.solo) 0 fine)
    (all_fit (due_at (schedule p) 0) [] (due_each p 0 fine) no_alarm)

pub after_fit : (p : Setup) → IsPlan p.plan → (k : ℕ) (watch : Option ℕ) (inputs : Module → PairState) (a : Answer) (xs : List DueAlarm) → AreFit xs
    → AreFit (waits_after p k watch inputs a xs)
unfolding waits_after
after_fit p fine k watch inputs a xs h =
    all_fit (due_by_pair p.program p.plan watch inputs (k + 1) a) (add_all (due_at (schedule p) (k + 1)) (left_by a xs)) (pair_each p watch inputs (k + 1) a fine)
    (all_fit (due_at (schedule p) (k + 1)) (left_by a xs) (due_each p (k + 1) fine) (left_fit a xs h))

-- the alarms that wait are such that may be answers, and the inputs are of bytes
pub record IsFine (g : Ledger) : Type 0 where
  pub waiting : AreFit g.waiting
  pub inputs : AreBytes g.inputs

all_zero : (n : ℕ) → All IsByte (replicate n 0)
all_zero zero = λ k d less. absurd (omega arith)
all_zero (suc n) = All-cons IsByte 0 (replicate n 0) (omega arith) (all_zero n)

pub first_fine : (p : Setup) → IsPlan p.plan → IsFine (first_ledger p)
first_fine p fine = record {
  waiting = first_fit p fine;
  inputs = λ m. step_small p.plan m (readers (first_standing p.solo)) 0 fresh fine (all_zero 64);
}

pub after_fine : (p : Setup) → IsPlan p.plan → (g : Ledger) (e : Entry) → IsFine g → IsFine (after p g e)
after_fine p fine g e h = record {
  waiting = after_fit p fine g.moment (after p g e).watch (after p g e).inputs e.answer g.waiting h.waiting;
  inputs = λ m. step_small p.plan m (readers (after_answer g.standing e.answer)) (g.moment + 1) (g.inputs m) fine (h.inputs m);
}

fine_from : (p : Setup) (g : Ledger) (es : List Entry) → IsPlan p.plan → IsFine g → IsFine (ledger_from p g es)
fine_from p g [] fine h = h
fine_from p g (e ∷ es) fine h = fine_from p (after p g e) es fine (after_fine p fine g e h)

-- so they are after any entries
pub ledger_fine : (p : Setup) (es : List Entry) → IsPlan p.plan → IsFine (ledger p es)
ledger_fine p es fine = fine_from p (first_ledger p) es fine (first_fine p fine)

-- the first of them ----------------------------------------------------------------

-- an alarm, by the number of its block and its start information
abbrev pub start_of : DueAlarm → ℕ × ℕ
start_of x = (x.ob, x.info)

-- the alarm that goes first, where it is above a priority
pub record GoesFirst (priority : ℕ) (xs : List DueAlarm) (alarm : ℕ × ℕ) : Type 0 where
  pub first : DueAlarm
  pub rest : List DueAlarm
  pub is : xs ≡ first ∷ rest
  pub above : nat_lt priority first.priority ≡ true
  pub same : start_of first ≡ alarm

first_by : (priority : ℕ) (x : DueAlarm) (xs : List DueAlarm) (alarm : ℕ × ℕ) (b : Bool) → nat_lt priority x.priority ≡ b
    → (if b then Some (start_of x) else None) ≡ Some alarm → GoesFirst priority (x ∷ xs) alarm
first_by priority x xs alarm true above is = record { first = x; rest = xs; is = refl; above = above; same = cc }
first_by priority x xs alarm false above is = absurd cc

pub goes_first : (priority : ℕ) (xs : List DueAlarm) (alarm : ℕ × ℕ) → first_above priority xs ≡ Some alarm → GoesFirst priority xs alarm
goes_first priority [] alarm is = absurd cc
goes_first priority (x ∷ xs) alarm is = first_by priority x xs alarm (nat_lt priority x.priority) refl is

none_by : (priority : ℕ) (x : DueAlarm) (xs : List DueAlarm) (b : Bool) → nat_lt priority x.priority ≡ b → InOrder (x ∷ xs)
    → (if b then Some (start_of x) else None) ≡ None → All (λ a. a.priority ≤ priority) (x ∷ xs)
none_by priority x xs true above order is = absurd cc
none_by priority x xs false above order is = due_laws.none_higher (x ∷ xs) x priority order refl (grind (arith, nat_tests))

-- where none goes first, none is above the priority
pub none_above : (priority : ℕ) (xs : List DueAlarm) → InOrder xs → first_above priority xs ≡ None → All (λ a. a.priority ≤ priority) xs
none_above priority [] order is = λ k d less. absurd (omega arith)
none_above priority (x ∷ xs) order is = none_by priority x xs (nat_lt priority x.priority) refl order is
