-- Showing and marking keep what is said of the showings.
use Rattle.std.proofs.Common.{◌≡◌, ◌∙◌, ℕ, ◌+◌, ◌-◌, ◌==◌, ◌<◌, ◌≤◌, Bool, true, false, List, [], ◌∷◌, ◌++◌, length, refl, ap, sym, subst, arith, length-append, append_assoc, None, inl, inr}
use Rattle.std.specs.Prelude.{if◌then◌else◌, ◌⊎◌, nat_lt, ◌&&◌, not}
use Rattle.std.proofs.lemmas.Bool.Decides.{nat_tests}
use Rattle.std.proofs.lemmas.List.{append-nil}
use Rattle.s7_events.specs.declared.entry.Side.{Side}
use Rattle.s7_events.specs.declared.entry.Side.TheVariants.{A, B}
use Rattle.s7_events.specs.declared.entry.Ask.{Ask}
use Rattle.s7_events.specs.declared.entry.Ask.TheVariants.{Stop}
use Rattle.s7_events.specs.declared.entry.Ask.TheVariants as asks
use Rattle.s7_events.specs.declared.entry.StopCode.{StopCode}
use Rattle.s7_events.specs.declared.entry.Answer.{Answer}
use Rattle.s7_events.specs.declared.entry.Answer.TheVariants.{Done, CpuStop}
use Rattle.s7_events.specs.declared.entry.Entry.{Entry}
use Rattle.plant_script.specs.Plan.{IsPlan}
use Rattle.pair_core.specs.Setup.{Setup}
use Rattle.pair_core.specs.Ledger.{first_ledger, standing}
use Rattle.pair_core.specs.Sides.{same_side, other_side, runs}
use Rattle.pair_core.specs.Cuts.{is_cut, is_late}
use Rattle.pair_core.specs.Stops.{stop_by, stop_of}
use Rattle.pair_core.specs.Showings.{is_output_of, is_output, showers, showers_by, tagged, shown_from, shown_of}
use Rattle.pair_core.specs.Endings.{ends_by_output}
use Rattle.pair_core.specs.World.{Log, standing_in, is_open, is_pending, has_shown, is_down, must_wait, shown_past, shown_past_from, with_shown, with_marked}
use Rattle.pair_core.specs.Good.{marked_from, shown_by, may_have, is_available, Settled, Pending, GoodLog}
use Rattle.pair_core.proofs.Lasts.{last_of, stop_snoc, output_snoc}
use Rattle.pair_core.proofs.Snoc.{marked_snoc, shown_snoc, standing_snoc, shown_past_snoc}
use Rattle.pair_core.proofs.Bounds.{marked_bound, shown_bound, shown_past_append, cut_end}

pub same_is : (s m : Side) → same_side s m ≡ true → s ≡ m
same_is A A h = refl
same_is A B h = absurd cc
same_is B A h = absurd cc
same_is B B h = refl

pub other_is : (s m : Side) → same_side s m ≡ false → s ≡ other_side m
other_is A A h = absurd cc
other_is A B h = refl
other_is B A h = refl
other_is B B h = absurd cc

-- how a test says that a side is cut in a visit
abbrev pub down_by : Bool → Bool → Bool → Bool → Bool → Bool → Bool
down_by early cut late same pending shown = early && cut && not (late && same && pending && not shown)

pub down_is : (p : Setup) (l : Log) (s : Side) → is_down p l s ≡ down_by (is_open p l) (is_cut p.plan s (length l.entries)) (is_late p.plan s (length l.entries)) (same_side s (standing_in p l).master) (is_pending l) (has_shown l s)
unfolding is_down
down_is p l s = refl

and_no : (b : Bool) → (b && false) ≡ false
and_no true = refl
and_no false = refl

pub pending_is : (p : Setup) (l : Log) → Pending p l → is_pending l ≡ true
unfolding is_pending
pending_is p l h =
    let few : marked_from 0 0 h.front ≤ 0 + length h.front = marked_bound 0 0 h.front (omega arith) in
    let lt : l.marked < length l.entries = omega (arith, few, h.marked, ap length h.is, length-append h.front (h.last ∷ [])) in
    let ends : ends_by_output l.entries ≡ true = ap ends_by_output h.is ∙ (output_snoc false h.front h.last ∙ h.output) in
    let test : nat_lt l.marked (length l.entries) ≡ true = grind (arith, nat_tests) in
    rw (ends, test)

settled_end : (p : Setup) (l : Log) (front : List Entry) (last : Entry) → Settled p l → l.entries ≡ front ++ last ∷ [] → (b : Bool) → is_output last ≡ b → is_pending l ≡ false
unfolding is_pending
settled_end p l front last h is true out =
    let all : l.marked ≡ length l.entries =
    h.marked ∙ (rw (is, marked_snoc 0 0 front last, out) (omega (arith, length-append front (last ∷ [])))) in
    let test : nat_lt l.marked (length l.entries) ≡ false = grind (arith, nat_tests) in
    rw test (and_no (ends_by_output l.entries))
settled_end p l front last h is false out =
    let ends : ends_by_output l.entries ≡ false = ap ends_by_output is ∙ (output_snoc false front last ∙ out) in
    rw ends

no_stop : (ask : Ask) (code : StopCode) → is_output_of ask (CpuStop code) ≡ false
no_stop (asks.Outputs image) code = refl
no_stop (asks.WriteP addr width value) code = refl
no_stop ask code = refl

and_yes : (b : Bool) → (b && true) ≡ b
and_yes true = refl
and_yes false = refl

output_goes : (ask : Ask) (answer : Answer) → is_output_of ask answer ≡ true → stop_by ask answer ≡ None
output_goes ask (CpuStop code) h = absurd (cc (no_stop ask code))
output_goes (Stop code) Done h = absurd cc
output_goes ask answer h = refl

-- an output does not stop the CPU
pub pending_goes : (p : Setup) (l : Log) → Pending p l → stop_of l.entries ≡ None
pending_goes p l h = ap stop_of h.is ∙ (stop_snoc None h.front h.last ∙ output_goes h.last.request.ask h.last.answer h.output)

-- so the record is open until it is full
pub pending_open : (p : Setup) (l : Log) → Pending p l → is_open p l ≡ nat_lt (length l.entries) p.plan.end
unfolding is_open
pending_open p l h =
    let free : stop_of l.entries ≡ None = pending_goes p l h in
    rw free (and_yes (nat_lt (length l.entries) p.plan.end))

pub settled_is : (p : Setup) (l : Log) → Settled p l → is_pending l ≡ false
unfolding is_pending
settled_is p l h = elim (last_of l.entries) [ inl e ↦ rw e | inr r ↦ settled_end p l r.0 r.1 h r.2 (is_output r.1) refl ]

eq_self : (n : ℕ) → (n == n) ≡ true
eq_self n = grind (arith, nat_tests)

eq_past : (past e : ℕ) → past ≤ e → (past == e + 1) ≡ false
eq_past past e h = grind (arith, nat_tests)

pub has_cases : (past e : ℕ) (m s : Side) (hm ho : Bool) → past ≤ e → (shown_past_from past (tagged e (shown_by m hm ho)) s == e + 1) ≡ (if same_side s m then hm else ho)
has_cases past e A A true true h = eq_self (e + 1)
has_cases past e A A true false h = eq_self (e + 1)
has_cases past e A A false true h = eq_past past e h
has_cases past e A A false false h = eq_past past e h
has_cases past e A B true true h = eq_self (e + 1)
has_cases past e A B true false h = eq_past past e h
has_cases past e A B false true h = eq_self (e + 1)
has_cases past e A B false false h = eq_past past e h
has_cases past e B A true true h = eq_self (e + 1)
has_cases past e B A true false h = eq_past past e h
has_cases past e B A false true h = eq_self (e + 1)
has_cases past e B A false false h = eq_past past e h
has_cases past e B B true true h = eq_self (e + 1)
has_cases past e B B true false h = eq_self (e + 1)
has_cases past e B B false true h = eq_past past e h
has_cases past e B B false false h = eq_past past e h

pub has_is : (p : Setup) (l : Log) (h : Pending p l) (s : Side) → has_shown l s ≡ (if same_side s (standing_in p l).master then h.by_master else h.by_other)
unfolding has_shown
has_is p l h s =
    let few : shown_past_from 0 (shown_from p (first_ledger p) h.front) s ≤ 0 + length h.front = shown_bound p (first_ledger p) 0 h.front s (omega arith) in
    let len : length l.entries ≡ length h.front + 1 = ap length h.is ∙ length-append h.front (h.last ∷ []) in
    rw (h.shown, len, shown_past_append 0 (shown_of p h.front) (tagged (length h.front) (shown_by (standing_in p l).master h.by_master h.by_other)) s)
    (has_cases (shown_past (shown_of p h.front) s) (length h.front) (standing_in p l).master s h.by_master h.by_other (omega (arith, few)))

-- what a master that is not cut, and has not shown, may do
show_m : (early cut late avail hm ho : Bool) → may_have cut late avail hm ho ≡ true → hm ≡ false → down_by early cut late true true hm ≡ false → (early ≡ false → cut ≡ false)
    → (may_have cut late avail true ho ≡ true) × (ho ≡ false)
show_m early false late avail hm true may is down full = absurd cc
show_m early false late avail hm false may is down full = (refl, refl)
show_m true true false avail hm ho may is down full = absurd cc
show_m false true false avail hm ho may is down full = absurd (cc (full refl))
show_m early true true avail true ho may is down full = absurd cc
show_m early true true avail false true may is down full = absurd cc
show_m early true true avail false false may is down full = (refl, refl)

-- the same of the other side, once the master is cut
show_o : (early cut late avail hm ho : Bool) → may_have cut late avail hm ho ≡ true → avail ≡ true → down_by early cut late true true hm ≡ true
    → may_have cut late avail hm true ≡ true
show_o true false late avail hm ho may is down = absurd cc
show_o false cut late avail hm ho may is down = absurd cc
show_o true true false avail true ho may is down = absurd cc
show_o true true false avail false ho may is down = is
show_o true true true avail true ho may is down = is
show_o true true true avail false ho may is down = absurd cc

-- who marks has the whole list shown
mark_m : (m : Side) (early cut late avail hm ho : Bool) → may_have cut late avail hm ho ≡ true → hm ≡ true → down_by early cut late true true hm ≡ false → (early ≡ false → cut ≡ false)
    → shown_by m hm ho ≡ showers_by m cut late avail
mark_m m early cut late avail false ho may is down full = absurd cc
mark_m m early false late avail true true may is down full = absurd cc
mark_m m early false late avail true false may is down full = refl
mark_m m true true late avail true ho may is down full = elim late as (λ v. down_by true true v true true true ≡ false → shown_by m true ho ≡ showers_by m true v avail) [ true ↦ λ d. absurd cc | false ↦ λ d. absurd cc ] down
mark_m m false true late avail true ho may is down full = absurd (cc (full refl))

mark_o : (m : Side) (early cut late avail hm ho : Bool) → may_have cut late avail hm ho ≡ true → ho ≡ true → down_by early cut late true true hm ≡ true
    → shown_by m hm ho ≡ showers_by m cut late avail
mark_o m early cut late avail hm false may is down = absurd cc
mark_o m false cut late avail hm true may is down = absurd cc
mark_o m true false late avail hm true may is down = absurd cc
mark_o m true true false avail true true may is down = absurd cc
mark_o m true true false true false true may is down = refl
mark_o m true true false false false true may is down = absurd cc
mark_o m true true true true true true may is down = refl
mark_o m true true true false true true may is down = absurd cc
mark_o m true true true avail false true may is down = absurd cc

-- where an output is the last entry of a full record, no side that runs is cut
pub full_uncut : (p : Setup) (l : Log) (s : Side) → IsPlan p.plan → GoodLog p l → Pending p l → runs (standing_in p l) s ≡ true → is_open p l ≡ false → is_cut p.plan s (length l.entries) ≡ false
full_uncut p l s fine good h run full =
    let early : nat_lt (length l.entries) p.plan.end ≡ false = sym (pending_open p l h) ∙ full in
    let long : p.plan.end ≤ length l.entries = grind (arith, nat_tests) in
    let some : 0 < p.plan.end = omega (arith, fine.end_low) in
    let k : length l.entries ≡ length l.entries - 1 + 1 = omega arith in
    let before : is_cut p.plan s (length l.entries - 1) ≡ false = good.same.fresh s run (length l.entries - 1) (sym k) in
    let same : is_cut p.plan s (length l.entries - 1 + 1) ≡ is_cut p.plan s (length l.entries - 1) = cut_end p.plan s (length l.entries - 1) fine (omega arith) in
    ap (is_cut p.plan s) k ∙ (same ∙ before)

add_shown : (base : List (ℕ × Side)) (e : ℕ) (m : Side) (hm : Bool) → (base ++ tagged e (shown_by m hm false)) ++ (e, other_side m) ∷ [] ≡ base ++ tagged e (shown_by m hm true)
add_shown base e m true = append_assoc base ((e, m) ∷ []) ((e, other_side m) ∷ [])
add_shown base e m false = rw append-nil

add_first : (base : List (ℕ × Side)) (e : ℕ) (m : Side) (hm ho : Bool) → hm ≡ false → ho ≡ false → (base ++ tagged e (shown_by m hm ho)) ++ (e, m) ∷ [] ≡ base ++ tagged e (shown_by m true ho)
add_first base e m true ho h g = absurd cc
add_first base e m false true h g = absurd cc
add_first base e m false false h g = rw append-nil

pub last_place : (p : Setup) (l : Log) (h : Pending p l) → length l.entries ≡ length h.front + 1
last_place p l h = ap length h.is ∙ length-append h.front (h.last ∷ [])

last_index : (p : Setup) (l : Log) (h : Pending p l) → length l.entries - 1 ≡ length h.front
last_index p l h = omega (arith, last_place p l h)

pub self_same : (m : Side) → same_side m m ≡ true
self_same A = refl
self_same B = refl

other_same : (m : Side) → same_side (other_side m) m ≡ false
other_same A = refl
other_same B = refl

master_of : Setup → Log → Side
master_of p l = (standing_in p l).master

has_master : (p : Setup) (l : Log) (h : Pending p l) → has_shown l (standing_in p l).master ≡ h.by_master
has_master p l h = rw (has_is p l h (standing_in p l).master, self_same (standing_in p l).master)

has_other : (p : Setup) (l : Log) (h : Pending p l) → has_shown l (other_side (standing_in p l).master) ≡ h.by_other
has_other p l h = rw (has_is p l h (other_side (standing_in p l).master), other_same (standing_in p l).master)

pub master_down : (p : Setup) (l : Log) (h : Pending p l)
    → is_down p l (standing_in p l).master ≡ down_by (is_open p l) (is_cut p.plan (standing_in p l).master (length l.entries)) (is_late p.plan (standing_in p l).master (length l.entries)) true true h.by_master
master_down p l h = rw (down_is p l (standing_in p l).master, self_same (standing_in p l).master, pending_is p l h, has_master p l h)

-- a side that isn't master is cut by the script alone
not_waiting : (early cut late pending shown : Bool) → down_by early cut late false pending shown ≡ (early && cut)
not_waiting true true true pending shown = refl
not_waiting true true false pending shown = refl
not_waiting true false late pending shown = refl
not_waiting false cut late pending shown = refl

pub other_down : (p : Setup) (l : Log) → is_down p l (other_side (standing_in p l).master) ≡ (is_open p l && is_cut p.plan (other_side (standing_in p l).master) (length l.entries))
other_down p l =
    let o = other_side (standing_in p l).master in
    rw (down_is p l o, other_same (standing_in p l).master)
    (not_waiting (is_open p l) (is_cut p.plan o (length l.entries)) (is_late p.plan o (length l.entries)) (is_pending l) (has_shown l o))

show_by_master : (p : Setup) (l : Log) → IsPlan p.plan → GoodLog p l → (h : Pending p l) → is_down p l (standing_in p l).master ≡ false → has_shown l (standing_in p l).master ≡ false → Pending p (with_shown l (standing_in p l).master)
show_by_master p l fine good h down has =
    let m = (standing_in p l).master in
    let none : h.by_master ≡ false = sym (has_master p l h) ∙ has in
    let may = show_m (is_open p l) (is_cut p.plan m (length l.entries)) (is_late p.plan m (length l.entries)) (is_available p l) h.by_master h.by_other h.allowed none (sym (master_down p l h) ∙ down) (full_uncut p l m fine good h good.same.master) in
    record {
      front = h.front;
      last = h.last;
      is = h.is;
      output = h.output;
      marked = h.marked;
      by_master = true;
      by_other = h.by_other;
      shown = rw (h.shown, last_index p l h) (add_first (shown_of p h.front) (length h.front) m h.by_master h.by_other none may.1);
      allowed = may.0;
    }

-- a list to which the other side is added
add_other : (base : List (ℕ × Side)) (e : ℕ) (m : Side) (hm ho : Bool) → ho ≡ false → (base ++ tagged e (shown_by m hm ho)) ++ (e, other_side m) ∷ [] ≡ base ++ tagged e (shown_by m hm true)
add_other base e m hm true h = absurd cc
add_other base e m hm false h = add_shown base e m hm

early_when_down : (early cut late pending shown : Bool) → down_by early cut late true pending shown ≡ true → early ≡ true
early_when_down true cut late pending shown h = refl
early_when_down false cut late pending shown h = absurd cc

show_by_other : (p : Setup) (l : Log) → GoodLog p l → (h : Pending p l) → runs (standing_in p l) (other_side (standing_in p l).master) ≡ true
    → is_down p l (standing_in p l).master ≡ true → is_down p l (other_side (standing_in p l).master) ≡ false → has_shown l (other_side (standing_in p l).master) ≡ false
    → Pending p (with_shown l (other_side (standing_in p l).master))
show_by_other p l good h run down up has =
    let m = (standing_in p l).master in
    let none : h.by_other ≡ false = sym (has_other p l h) ∙ has in
    let mdown = sym (master_down p l h) ∙ down in
    let early : is_open p l ≡ true = early_when_down (is_open p l) (is_cut p.plan m (length l.entries)) (is_late p.plan m (length l.entries)) true h.by_master mdown in
    let uncut : is_cut p.plan (other_side m) (length l.entries) ≡ false = (rw early at (sym (other_down p l))) ∙ up in
    let avail : is_available p l ≡ true = rw (run, uncut) in
    record {
      front = h.front;
      last = h.last;
      is = h.is;
      output = h.output;
      marked = h.marked;
      by_master = h.by_master;
      by_other = true;
      shown = rw (h.shown, last_index p l h) (add_other (shown_of p h.front) (length h.front) m h.by_master h.by_other none);
      allowed = show_o (is_open p l) (is_cut p.plan m (length l.entries)) (is_late p.plan m (length l.entries)) (is_available p l) h.by_master h.by_other h.allowed avail mdown;
    }

must_be_down : (b : Bool) → not b ≡ false → b ≡ true
must_be_down true h = refl
must_be_down false h = absurd cc

shown_turn : (p : Setup) (l : Log) (s : Side) (own : Bool) → same_side s (standing_in p l).master ≡ own → IsPlan p.plan → GoodLog p l → Pending p l → runs (standing_in p l) s ≡ true → is_down p l s ≡ false → has_shown l s ≡ false
    → (not own && not (is_down p l (standing_in p l).master)) ≡ false → Pending p (with_shown l s)
shown_turn p l s true is fine good h run up has turn =
    let e : s ≡ (standing_in p l).master = same_is s (standing_in p l).master is in
    subst (λ v. Pending p (with_shown l v)) (sym e) (show_by_master p l fine good h (subst (λ v. is_down p l v ≡ false) e up) (subst (λ v. has_shown l v ≡ false) e has))
shown_turn p l s false is fine good h run up has turn =
    let e : s ≡ other_side (standing_in p l).master = other_is s (standing_in p l).master is in
    subst (λ v. Pending p (with_shown l v)) (sym e)
    (show_by_other p l good h (subst (λ v. runs (standing_in p l) v ≡ true) e run) (must_be_down (is_down p l (standing_in p l).master) turn) (subst (λ v. is_down p l v ≡ false) e up) (subst (λ v. has_shown l v ≡ false) e has))

pub whole_shown : (p : Setup) (front : List Entry) (last : Entry) (sides : List Side) → is_output last ≡ true
    → sides ≡ showers p.plan (standing p (front ++ last ∷ [])) (length (front ++ last ∷ []))
    → shown_of p front ++ tagged (length front) sides ≡ shown_of p (front ++ last ∷ [])
whole_shown p front last sides out whole =
    let len : length (front ++ last ∷ []) ≡ 0 + length front + 1 = omega (arith, length-append front (last ∷ [])) in
    let zero : 0 + length front ≡ length front = omega arith in
    rw (shown_snoc p (first_ledger p) front last, out, whole, len, standing_snoc p front last, zero)

pub marked_settled : (p : Setup) (l : Log) (h : Pending p l) → shown_by (standing_in p l).master h.by_master h.by_other ≡ showers p.plan (standing_in p l) (length l.entries) → Settled p (with_marked l)
marked_settled p l h whole = record {
  shown = h.shown ∙ (whole_shown p h.front h.last (shown_by (standing_in p l).master h.by_master h.by_other) h.output (whole ∙ ap (λ es. showers p.plan (standing p es) (length es)) h.is) ∙ sym (ap (shown_of p) h.is));
  marked = rw (h.is, marked_snoc 0 0 h.front h.last, h.output) (omega (arith, length-append h.front (h.last ∷ [])));
}

marked_turn : (p : Setup) (l : Log) (s : Side) (own : Bool) → same_side s (standing_in p l).master ≡ own → IsPlan p.plan → GoodLog p l → Pending p l → is_down p l s ≡ false → has_shown l s ≡ true
    → (not own && not (is_down p l (standing_in p l).master)) ≡ false → Settled p (with_marked l)
marked_turn p l s true is fine good h up has turn =
    let m = (standing_in p l).master in
    let e : s ≡ m = same_is s m is in
    let shown : h.by_master ≡ true = sym (has_master p l h) ∙ subst (λ v. has_shown l v ≡ true) e has in
    let down = sym (master_down p l h) ∙ subst (λ v. is_down p l v ≡ false) e up in
    marked_settled p l h (mark_m m (is_open p l) (is_cut p.plan m (length l.entries)) (is_late p.plan m (length l.entries)) (is_available p l) h.by_master h.by_other h.allowed shown down (full_uncut p l m fine good h good.same.master))
marked_turn p l s false is fine good h up has turn =
    let m = (standing_in p l).master in
    let e : s ≡ other_side m = other_is s m is in
    let shown : h.by_other ≡ true = sym (has_other p l h) ∙ subst (λ v. has_shown l v ≡ true) e has in
    let down = sym (master_down p l h) ∙ must_be_down (is_down p l m) turn in
    marked_settled p l h (mark_o m (is_open p l) (is_cut p.plan m (length l.entries)) (is_late p.plan m (length l.entries)) (is_available p l) h.by_master h.by_other h.allowed shown down)

-- an output that is not marked is the last entry
pub pending_shows : (p : Setup) (l : Log) → Settled p l ⊎ Pending p l → is_pending l ≡ true → Pending p l
pending_shows p l (inl h) pending = absurd (cc (settled_is p l h))
pending_shows p l (inr h) pending = h

pub settled_shows : (p : Setup) (l : Log) → Settled p l ⊎ Pending p l → is_pending l ≡ false → Settled p l
settled_shows p l (inl h) pending = h
settled_shows p l (inr h) pending = absurd (cc (pending_is p l h))

-- whoever may show: the master, or the other side where the master is cut
pub good_shown : (p : Setup) (l : Log) (s : Side) → IsPlan p.plan → GoodLog p l → is_pending l ≡ true → runs (standing_in p l) s ≡ true → is_down p l s ≡ false → has_shown l s ≡ false
    → must_wait p l s ≡ false → GoodLog p (with_shown l s)
good_shown p l s fine good pending run up has turn = record {
  same = good.same;
  shows = inr (shown_turn p l s (same_side s (standing_in p l).master) refl fine good (pending_shows p l good.shows pending) run up has turn);
}

pub good_marked : (p : Setup) (l : Log) (s : Side) → IsPlan p.plan → GoodLog p l → is_pending l ≡ true → is_down p l s ≡ false → has_shown l s ≡ true
    → must_wait p l s ≡ false → GoodLog p (with_marked l)
good_marked p l s fine good pending up has turn = record {
  same = good.same;
  shows = inl (marked_turn p l s (same_side s (standing_in p l).master) refl fine good (pending_shows p l good.shows pending) up has turn);
}

-- a side that is cut stays so when an output is shown or marked
shown_mono : (early cut late same pending before now : Bool) → (before ≡ true → now ≡ true) → down_by early cut late same pending now ≡ false → down_by early cut late same pending before ≡ false
shown_mono early cut late same pending true now h up = rw (h refl) at up
shown_mono early cut late same pending false false h up = up
shown_mono false cut late same pending false true h up = refl
shown_mono true false late same pending false true h up = refl
shown_mono true true false same pending false true h up = absurd cc
shown_mono true true true false pending false true h up = absurd cc
shown_mono true true true true false false true h up = absurd cc
shown_mono true true true true true false true h up = absurd cc

marked_mono : (early cut late same pending before now : Bool) → down_by early cut late same false now ≡ false → down_by early cut late same pending before ≡ false
marked_mono false cut late same pending before now up = refl
marked_mono true false late same pending before now up = refl
marked_mono true true false same pending before now up = absurd cc
marked_mono true true true false pending before now up = absurd cc
marked_mono true true true true pending before now up = absurd cc

eq_case : (b : Bool) (k n past : ℕ) → k + 1 ≡ n → (past == n) ≡ true → ((if b then k + 1 else past) == n) ≡ true
eq_case true k n past e h = grind (arith, nat_tests)
eq_case false k n past e h = h

pub has_kept : (l : Log) (s t : Side) → 0 < length l.entries → has_shown l t ≡ true → has_shown (with_shown l s) t ≡ true
unfolding has_shown
has_kept l s t some h =
    rw (shown_past_snoc 0 l.shown ((length l.entries - 1, s)) t)
    (eq_case (same_side s t) (length l.entries - 1) (length l.entries) (shown_past l.shown t) (omega arith) h)

pub pending_kept : (l : Log) (s : Side) → is_pending (with_shown l s) ≡ is_pending l
unfolding is_pending
pending_kept l s = refl

marked_not : (p : Setup) (l : Log) → Settled p (with_marked l) → is_pending (with_marked l) ≡ false
marked_not p l h = settled_is p (with_marked l) h

pub shown_up : (p : Setup) (l : Log) (s t : Side) → 0 < length l.entries → is_down p (with_shown l s) t ≡ false → is_down p l t ≡ false
unfolding is_open
shown_up p l s t some up =
    let n = length l.entries in
    let new : down_by (is_open p l) (is_cut p.plan t n) (is_late p.plan t n) (same_side t (standing_in p l).master) (is_pending l) (has_shown (with_shown l s) t) ≡ false =
    (rw (pending_kept l s) at (sym (down_is p (with_shown l s) t))) ∙ up in
    down_is p l t ∙ shown_mono (is_open p l) (is_cut p.plan t n) (is_late p.plan t n) (same_side t (standing_in p l).master) (is_pending l) (has_shown l t) (has_shown (with_shown l s) t) (has_kept l s t some) new

marked_up_at : (p : Setup) (l : Log) (t : Side) → is_pending (with_marked l) ≡ false → is_down p (with_marked l) t ≡ false → is_down p l t ≡ false
unfolding is_open
marked_up_at p l t not_pending up =
    let n = length l.entries in
    let new : down_by (is_open p l) (is_cut p.plan t n) (is_late p.plan t n) (same_side t (standing_in p l).master) false (has_shown (with_marked l) t) ≡ false =
    (rw not_pending at (sym (down_is p (with_marked l) t))) ∙ up in
    down_is p l t ∙ marked_mono (is_open p l) (is_cut p.plan t n) (is_late p.plan t n) (same_side t (standing_in p l).master) (is_pending l) (has_shown l t) (has_shown (with_marked l) t) new

pub never : (n : ℕ) → nat_lt n n ≡ false
never n = grind (arith, nat_tests)

pub marked_up : (p : Setup) (l : Log) (t : Side) → is_down p (with_marked l) t ≡ false → is_down p l t ≡ false
unfolding is_pending
marked_up p l t up = marked_up_at p l t (rw (never (length l.entries)) (and_no (ends_by_output l.entries))) up
