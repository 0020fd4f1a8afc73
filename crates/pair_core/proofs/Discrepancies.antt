-- The alarms of the modules, one after the other.
use Rattle.std.proofs.Common.{◌≡◌, ◌∙◌, ℕ, zero, suc, ◌+◌, ◌<◌, Bool, true, false, List, [], ◌∷◌, ◌++◌, length, take, get_or, refl, ap, sym, subst, arith, add-one, Option, Some, None}
use Rattle.std.specs.Prelude.{if◌then◌else◌, ◌==◌, ◌||◌, map, filter, slice_get, IfSome, IsTrue}
use Rattle.std.specs.List.{list_any}
use Rattle.std.proofs.lemmas.Bool.{eq-eqb}
use Rattle.std.proofs.lemmas.Option.{get_or_from_slice_get, slice_get-get_or, slice_get_within}
use Rattle.std.proofs.Math.Seq.{take-suc}
use Rattle.plant_script.specs.declared.plan.Module.{Module}
use Rattle.plant_script.specs.declared.plan.ModuleKind.TheVariants.{Switched}
use Rattle.plant_io.specs.PairValue.{PairState}
use Rattle.plant_io.specs.Inputs.{is_due_at}
use Rattle.plant_io.proofs.Whole.{of_some, in_place}
use Rattle.alarm_queue.specs.declared.alarm.DueAlarm.{DueAlarm}
use Rattle.alarm_queue.specs.declared.alarm.Source.TheVariants as sources
use Rattle.alarm_queue.specs.Order.{due_alarm, add, add_all}
use Rattle.pair_core.specs.Waits.{discrepancy_at}
use Rattle.pair_core.proofs.Waiting.{added_both}

or_true : (b : Bool) → (b || true) ≡ true
or_true true = refl
or_true false = refl

line_here : (x m : Module) (rest : Bool) → x ≡ m → (x.line == m.line || rest) ≡ true
line_here x m rest same = (let is : (x.line == m.line) ≡ true = eq-eqb x.line m.line (ap (λ (y : Module). y.line) same) in rw is refl)

-- the line of a module is one of theirs
pub line_there : (ms : List Module) (i : ℕ) (m : Module) → slice_get ms i ≡ Some m → list_any (λ other. other == m.line) (map (λ (x : Module). x.line) ms) ≡ true
line_there [] i m e = absurd cc
line_there (x ∷ xs) zero m e = line_here x m (list_any (λ other. other == m.line) (map (λ (y : Module). y.line) xs)) cc
line_there (x ∷ xs) (suc i) m e = (let later = line_there xs i m e in rw later (or_true (x.line == m.line)))

last_by : (b : Bool) (k : ℕ) (m : Module) → map (discrepancy_at k) (if b then m ∷ [] else []) ≡ (if b then discrepancy_at k m ∷ [] else [])
last_by true k m = refl
last_by false k m = refl

-- of one module more
pub due_push : (k : ℕ) (test : Module → Bool) (ms : List Module) (m : Module)
    → map (discrepancy_at k) (filter test (ms ++ m ∷ [])) ≡ map (discrepancy_at k) (filter test ms) ++ (if test m then discrepancy_at k m ∷ [] else [])
due_push k test [] m = last_by (test m) k m
due_push k test (x ∷ xs) m = by_test (test x) (due_push k test xs m)
  where
    by_test : (b : Bool) → map (discrepancy_at k) (filter test (xs ++ m ∷ [])) ≡ map (discrepancy_at k) (filter test xs) ++ (if test m then discrepancy_at k m ∷ [] else [])
        → map (discrepancy_at k) (if b then x ∷ filter test (xs ++ m ∷ []) else filter test (xs ++ m ∷ []))
        ≡ map (discrepancy_at k) (if b then x ∷ filter test xs else filter test xs) ++ (if test m then discrepancy_at k m ∷ [] else [])
    by_test true h = ap (λ (rest : List DueAlarm). discrepancy_at k x ∷ rest) h
    by_test false h = h

add_last : (b : Bool) (a : DueAlarm) (xs : List DueAlarm) → add_all (if b then a ∷ [] else []) xs ≡ (if b then add a xs else xs)
add_last true a xs = refl
add_last false a xs = refl

-- what waits once one module more was looked at
pub one_more : (ms : List Module) (i k : ℕ) (test : Module → Bool) (m : Module) (start before after : List DueAlarm) → slice_get ms i ≡ Some m
    → before ≡ add_all (map (discrepancy_at k) (filter test (take i ms))) start → after ≡ (if test m then add (discrepancy_at k m) before else before)
    → after ≡ add_all (map (discrepancy_at k) (filter test (take (i + 1) ms))) start
one_more ms i k test m start before after there was is =
    let less : i < length ms = slice_get_within ms i m there in
    let front : take (i + 1) ms ≡ take i ms ++ m ∷ [] =
    ap (λ n. take n ms) (add-one i) ∙ take-suc ms i m less ∙ ap (λ (x : Module). take i ms ++ x ∷ []) (get_or_from_slice_get ms i m m there) in
    let due = map (discrepancy_at k) (filter test (take i ms)) in
    is ∙ ap (λ (xs : List DueAlarm). if test m then add (discrepancy_at k m) xs else xs) was
    ∙ sym (add_last (test m) (discrepancy_at k m) (add_all due start))
    ∙ sym (added_both due (if test m then discrepancy_at k m ∷ [] else []) start)
    ∙ ap (λ (xs : List DueAlarm). add_all xs start) (sym (due_push k test (take i ms) m))
    ∙ ap (λ (xs : List Module). add_all (map (discrepancy_at k) (filter test xs)) start) (sym front)

-- where there is none
abbrev pub no_module : Module
no_module = record { line = 0; input = false; at_byte = 0; len = 0; kind = Switched }

-- the same of the module in a place
pub one_more_at : (ms : List Module) (i k : ℕ) (states : Module → PairState) (start before after : List DueAlarm) → i < length ms
    → before ≡ add_all (map (discrepancy_at k) (filter (λ m. is_due_at m (states m)) (take i ms))) start
    → IfSome (slice_get ms i) (λ m. after ≡ (if is_due_at m (states m) then add (discrepancy_at k m) before else before))
    → after ≡ add_all (map (discrepancy_at k) (filter (λ m. is_due_at m (states m)) (take (i + 1) ms))) start
one_more_at ms i k states start before after less was is =
    let m = get_or ms i no_module in
    let there : slice_get ms i ≡ Some m = slice_get-get_or ms i no_module less in
    one_more ms i k (λ x. is_due_at x (states x)) m start before after there was
    (of_some (λ x. after ≡ (if is_due_at x (states x) then add (discrepancy_at k x) before else before)) (slice_get ms i) m there is)

-- the module in a place was looked at ------------------------------------------------

pub line_in : (ms list : List Module) (lines : List ℕ) (i : ℕ) → list ≡ ms → lines ≡ map (λ (m : Module). m.line) ms → i < length ms
    → IsTrue (list_any (λ other. other == (get_or list i no_module).line) lines)
line_in ms list lines i same are less =
    let m = get_or ms i no_module in
    let there : list_any (λ other. other == m.line) (map (λ (x : Module). x.line) ms) ≡ true = line_there ms i m (slice_get-get_or ms i no_module less) in
    subst (λ (xs : List Module). list_any (λ other. other == (get_or xs i no_module).line) lines ≡ true) (sym same)
    (subst (λ (ns : List ℕ). list_any (λ other. other == m.line) ns ≡ true) (sym are) there)

by_due : (o : Option Module) (k : ℕ) (states : Module → PairState) (b : Bool) (old new : List DueAlarm) → IfSome o (λ m. b ≡ is_due_at m (states m))
    → IfSome o (λ m. new ≡ (if b then add (discrepancy_at k m) old else old)) → IfSome o (λ m. new ≡ (if is_due_at m (states m) then add (discrepancy_at k m) old else old))
by_due None k states b old new due is = tt
by_due (Some m) k states b old new due is = subst (λ (x : Bool). new ≡ (if x then add (discrepancy_at k m) old else old)) due is

-- its alarm was added
pub is_added : (ms list : List Module) (i k info : ℕ) (states : Module → PairState) (b : Bool) (old new : List DueAlarm) → list ≡ ms → info ≡ (get_or list i no_module).at_byte → b ≡ true
    → new ≡ add (due_alarm 70 k (sources.Module (get_or list i no_module).line) info) old → IfSome (slice_get ms i) (λ m. b ≡ is_due_at m (states m))
    → IfSome (slice_get ms i) (λ m. new ≡ (if is_due_at m (states m) then add (discrepancy_at k m) old else old))
is_added ms list i k info states b old new same at now is due =
    let here : new ≡ add (discrepancy_at k (get_or list i no_module)) old = is ∙ ap (λ n. add (due_alarm 70 k (sources.Module (get_or list i no_module).line) n) old) at in
    by_due (slice_get ms i) k states b old new due
    (in_place (λ m. new ≡ (if b then add (discrepancy_at k m) old else old)) list ms i no_module same
    (subst (λ (x : Bool). new ≡ (if x then add (discrepancy_at k (get_or list i no_module)) old else old)) (sym now) here))

as_before : (o : Option Module) (k : ℕ) (b : Bool) (old : List DueAlarm) → b ≡ false → IfSome o (λ m. old ≡ (if b then add (discrepancy_at k m) old else old))
as_before None k b old never = tt
as_before (Some m) k b old never = subst (λ (x : Bool). old ≡ (if x then add (discrepancy_at k m) old else old)) (sym never) refl

-- it is not due
pub is_left : (ms : List Module) (i k : ℕ) (states : Module → PairState) (b : Bool) (old : List DueAlarm) → b ≡ false → IfSome (slice_get ms i) (λ m. b ≡ is_due_at m (states m))
    → IfSome (slice_get ms i) (λ m. old ≡ (if is_due_at m (states m) then add (discrepancy_at k m) old else old))
is_left ms i k states b old never due = by_due (slice_get ms i) k states b old old due (as_before (slice_get ms i) k b old never)
