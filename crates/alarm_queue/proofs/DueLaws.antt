-- What becomes due comes in line by line, and has its place.
use Rattle.std.proofs.Common.{◌≡◌, ℕ, suc, ◌+◌, ◌≤◌, Bool, true, false, List, [], ◌∷◌, ◌++◌, get_or, refl, sym, subst, arith}
use Rattle.std.specs.Prelude.{if◌then◌else◌, ◌==◌, ◌&&◌, ◌||◌, All, IsTrue, map, filter, Option, Some, None, slice_get, nat_le, nat_lt}
use Rattle.std.specs.List.{filter_map, cons_option, list_any, AllPairs}
use Rattle.std.proofs.lemmas.Bool.Decides.{nat_tests}
use Rattle.std.proofs.lemmas.List.Elements.{All-cons}
use Rattle.s7_events.specs.Priorities.{is_cyclic}
use Rattle.plant_script.specs.declared.plan.Event.{Event}
use Rattle.plant_script.specs.declared.plan.What.{What}
use Rattle.plant_script.specs.declared.plan.What.TheVariants as events
use Rattle.alarm_queue.specs.declared.alarm.DueAlarm.{DueAlarm}
use Rattle.alarm_queue.specs.declared.alarm.Source.TheVariants.{Cpu, Module, Line}
use Rattle.alarm_queue.specs.Order.{due_alarm, is_before, line_of, waits_once, add, add_all, InOrder}
use Rattle.alarm_queue.specs.Capacity.{Slot, cpu_slots, module_slot, slots, QueueState, is_of_slot, has_slot}
use Rattle.alarm_queue.specs.Due.{Schedule, rises_from, is_of_line, alarm_by, alarm_of, cyclic_obs, lines_due, cyclic_due}
use Rattle.alarm_queue.specs.Cursor.{IsRising}
use Rattle.alarm_queue.specs.Waiting.{State, is_of_pair, source_by, is_its_line}
use Rattle.alarm_queue.proofs.OrderLaws.{order_head}

pub added_both : (first later xs : List DueAlarm) → add_all (first ++ later) xs ≡ add_all later (add_all first xs)
added_both [] later xs = refl
added_both (a ∷ rest) later xs = added_both rest later (add a xs)

-- the lines of a script --

line_numbers : (ob : ℕ) → (nat_le 40 ob && nat_le ob 47 || ob == 82) ≡ true → (nat_le 30 ob && nat_le ob 38 || ob == 70 || ob == 80) ≡ false
line_numbers ob h = grind (arith, nat_tests)

-- an alarm of a line may wait in any number, and is due at the moment of its line
record IsLineAlarm (event : Event) (a : DueAlarm) : Type 0 where
  other : waits_once a.ob ≡ false
  due : a.due ≡ event.moment

abbrev IfAlarm : Event → Option DueAlarm → Type 0
IfAlarm event None = Unit {0}
IfAlarm event (Some a) = IsLineAlarm event a

line_by : (moment line ob info : ℕ) (what : What) (b : Bool) → is_of_line ob ≡ b
    → IfAlarm (record { moment = moment; line = line; what = what }) (if b then Some (due_alarm ob moment (Line line) info) else None)
line_by moment line ob info what true is = record { other = line_numbers ob is; due = refl }
line_by moment line ob info what false is = tt

line_of_what : (moment line : ℕ) (what : What) → IfAlarm (record { moment = moment; line = line; what = what }) (alarm_by moment line what)
line_of_what moment line (events.Alarm ob info) = line_by moment line ob info (events.Alarm ob info) (is_of_line ob) refl
line_of_what moment line (events.Input at_byte side value) = tt
line_of_what moment line (events.Job job) = tt
line_of_what moment line (events.Fail side late) = tt
line_of_what moment line (events.Return side fresh) = tt
line_of_what moment line (events.Suspect side pass) = tt

line_alarm : (event : Event) → IfAlarm event (alarm_of event)
line_alarm event = line_of_what event.moment event.line event.what

others_by : (event : Event) (o : Option DueAlarm) (rest : List DueAlarm) → IfAlarm event o → All (λ a. waits_once a.ob ≡ false) rest → All (λ a. waits_once a.ob ≡ false) (cons_option o rest)
others_by event None rest h all = all
others_by event (Some a) rest h all = All-cons (λ b. waits_once b.ob ≡ false) a rest h.other all

pub line_others : (list : List Event) → All (λ a. waits_once a.ob ≡ false) (filter_map alarm_of list)
line_others [] = λ k d less. absurd (omega arith)
line_others (event ∷ rest) = others_by event (alarm_of event) (filter_map alarm_of rest) (line_alarm event) (line_others rest)

rising_more : (m n : ℕ) (lines : List DueAlarm) → IsRising m lines → n ≤ m → IsRising n lines
rising_more m n [] h le = tt
rising_more m n (a ∷ rest) h le = (omega (arith, h.0), h.1)

rising_by : (m : ℕ) (event : Event) (o : Option DueAlarm) (rest : List DueAlarm) → IfAlarm event o → m ≤ event.moment → IsRising event.moment rest → IsRising m (cons_option o rest)
rising_by m event None rest h le from_here = rising_more event.moment m rest from_here le
rising_by m event (Some a) rest h le from_here = (omega (arith, h.due), subst (λ k. IsRising k rest) (sym h.due) from_here)

both_true : (a b : Bool) → (a && b) ≡ true → (a ≡ true) × (b ≡ true)
both_true true true h = (refl, refl)
both_true true false h = absurd (cc h)
both_true false b h = absurd (cc h)

pub line_rising : (m : ℕ) (list : List Event) → rises_from m list ≡ true → IsRising m (filter_map alarm_of list)
line_rising m [] h = tt
line_rising m (event ∷ rest) h =
    let parts = both_true (nat_le m event.moment) (rises_from event.moment rest) h in
    let le : m ≤ event.moment = (let test = parts.0 in grind (arith, nat_tests)) in
    rising_by m event (alarm_of event) (filter_map alarm_of rest) (line_alarm event) le (line_rising event.moment rest parts.1)

-- the events of a script rise
pub rises : (m : ℕ) (list : List Event) → All (λ event. m ≤ event.moment) list → AllPairs (λ earlier later. earlier.moment ≤ later.moment) list → rises_from m list ≡ true
rises m [] from pairs = refl
rises m (event ∷ rest) from pairs =
    let le : m ≤ event.moment = from 0 event (omega arith) in
    let first : nat_le m event.moment ≡ true = grind (arith, nat_tests) in
    rw first (rises event.moment rest (λ k d less. pairs 0 (suc k) d (omega arith) (omega arith)) (λ i j d lt less. pairs (suc i) (suc j) d (omega arith) (omega arith)))

-- the cyclic blocks --

cyclic_by : (ob : ℕ) (b : Bool) (rest : List ℕ) → IsTrue (is_cyclic ob) → All (λ n. IsTrue (is_cyclic n)) rest → All (λ n. IsTrue (is_cyclic n)) (if b then ob ∷ rest else rest)
cyclic_by ob true rest is all = All-cons (λ n. IsTrue (is_cyclic n)) ob rest is all
cyclic_by ob false rest is all = all

pub all_cyclic : (p : ℕ → Bool) → All (λ ob. IsTrue (is_cyclic ob)) (filter p cyclic_obs)
all_cyclic p =
    cyclic_by 30 (p 30) _ refl (cyclic_by 31 (p 31) _ refl (cyclic_by 32 (p 32) _ refl (cyclic_by 33 (p 33) _ refl (cyclic_by 34 (p 34) _ refl
    (cyclic_by 35 (p 35) _ refl (cyclic_by 36 (p 36) _ refl (cyclic_by 37 (p 37) _ refl (cyclic_by 38 (p 38) _ refl (λ k d less. absurd (omega arith))))))))))

-- the alarms of the pair --

or_skip : (a b : Bool) → b ≡ true → (a || b) ≡ true
or_skip true b h = refl
or_skip false b h = h

any_right : (p : Slot → Bool) (ss ts : List Slot) → list_any p ts ≡ true → list_any p (ss ++ ts) ≡ true
any_right p [] ts h = h
any_right p (s ∷ ss) ts h = or_skip (p s) (list_any p (ss ++ ts)) (any_right p ss ts h)

module_by : (line other : ℕ) (rest more : Bool) → (rest ≡ true → more ≡ true) → (other == line || rest) ≡ true → (line == other && true || more) ≡ true
module_by line other rest more h is = grind (arith, nat_tests)

of_modules : (modules : List ℕ) (line k info : ℕ) → list_any (λ other. other == line) modules ≡ true → has_slot (map module_slot modules) (due_alarm 70 k (Module line) info) ≡ true
of_modules [] line k info h = cc
of_modules (m ∷ ms) line k info h = module_by line m (list_any (λ other. other == line) ms) (has_slot (map module_slot ms) (due_alarm 70 k (Module line) info)) (of_modules ms line k info) h

of_module : (modules : List ℕ) (line k info : ℕ) → list_any (λ other. other == line) modules ≡ true → has_slot (slots modules) (due_alarm 70 k (Module line) info) ≡ true
of_module modules line k info h =
    any_right (λ s. is_of_slot (due_alarm 70 k (Module line) info) s) cpu_slots (map module_slot modules) (of_modules modules line k info h)

pair_numbers : (ob : ℕ) → (ob == 70 || ob == 72 || ob == 80) ≡ true → (ob ≡ 72 → ⊥) → (ob == 70) ≡ false → ob ≡ 80
pair_numbers ob h other is = grind (arith, nat_tests)

pair_by : (modules : List ℕ) (ob line k info : ℕ) (b : Bool) → (ob == 70) ≡ b → is_of_pair ob ≡ true → (ob ≡ 72 → ⊥) → (if b then list_any (λ other. other == line) modules else line == 0) ≡ true
    → has_slot (slots modules) (due_alarm ob k (if b then Module line else Cpu) info) ≡ true
pair_by modules ob line k info true is h other its =
    let same : ob ≡ 70 = grind (arith, nat_tests) in
    subst (λ n. has_slot (slots modules) (due_alarm n k (Module line) info) ≡ true) (sym same) (of_module modules line k info its)
pair_by modules ob line k info false is h other its =
    subst (λ n. has_slot (slots modules) (due_alarm n k Cpu info) ≡ true) (sym (pair_numbers ob h other is)) refl

pub pair_slot : (modules : List ℕ) (ob line k info : ℕ) → is_of_pair ob ≡ true → (ob ≡ 72 → ⊥) → is_its_line modules ob line ≡ true
    → has_slot (slots modules) (due_alarm ob k (source_by ob line) info) ≡ true
pair_slot modules ob line k info h other its = pair_by modules ob line k info (ob == 70) refl h other its

-- the first that waits --

priorities : (px py dx dy lx ly : ℕ)
    → (if py == px then (if dy == dx then nat_lt ly lx else nat_lt dy dx) else nat_lt px py) ≡ false → py ≤ px
priorities px py dx dy lx ly h = grind (arith, nat_tests)

not_higher : (x y : DueAlarm) → is_before y x ≡ false → y.priority ≤ x.priority
unfolding is_before
not_higher x y h = priorities x.priority y.priority x.due y.due (line_of x.source) (line_of y.source) h

pub none_higher : (xs : List DueAlarm) (x : DueAlarm) (priority : ℕ) → InOrder xs → slice_get xs 0 ≡ Some x → x.priority ≤ priority → All (λ a. a.priority ≤ priority) xs
none_higher [] x priority order is le = λ k d less. absurd (omega arith)
none_higher (y ∷ ys) x priority order is le =
    let same : y ≡ x = cc in
    let low : y.priority ≤ priority = subst (λ z. z.priority ≤ priority) (sym same) le in
    All-cons (λ a. a.priority ≤ priority) y ys low (λ k d less. omega (arith, not_higher y (get_or ys k d) (order_head y ys order k d less)))

-- what is due --

abbrev state : Schedule → List DueAlarm → ℕ → ℕ → State
state schedule waiting moment left = record { schedule = schedule; waiting = waiting; moment = moment; redundancy_left = left }

pub state_due : (lines : List DueAlarm) (cyclic : List ℕ) (ls : List DueAlarm) (cs : List ℕ) (q r s : QueueState) (k left : ℕ) → ls ≡ lines → cs ≡ cyclic
    → r ≡ record q { alarms = add_all (cyclic_due cs k) q.alarms } → s.alarms ≡ add_all (lines_due ls k) r.alarms → s.modules ≡ r.modules
    → state (record { lines = lines; cyclic = cyclic; modules = s.modules }) s.alarms (k + 1) left
    ≡ state (record { lines = lines; cyclic = cyclic; modules = q.modules }) (add_all (cyclic_due cyclic k ++ lines_due lines k) q.alarms) (k + 1) left
state_due lines cyclic ls cs q r s k left el ec er es em =
    let both = added_both (cyclic_due cyclic k) (lines_due lines k) q.alarms in cc
